-- Where a place of a program is passed over: a place further on, from which the program written out is the same, since only
-- repeats with nothing in them stand between.
use Rattle.std.specs.Prelude.{ℕ, ◌≡◌, ◌≤◌, ◌<◌, List, ◌++◌, length, drop, slice_index_or}
use Rattle.k_script.specs.declared.operation.Operation.{Operation}
use Rattle.k_script.specs.Flat.{levels}

-- It is the same whatever operations follow, so that a program may grow.
pub record IsSkip (ops : List Operation) (place skip : ℕ) : Type 0 where
  pub onward : place ≤ skip
  pub inside : skip ≤ length ops
  pub same : (more : List Operation) → levels (drop skip ops ++ more) ≡ levels (drop place ops ++ more)

-- The end has no skip: it is where it is.
abbrev pub skip_in : List ℕ → ℕ → ℕ
skip_in skips place = slice_index_or skips place place

abbrev pub AreSkips : List Operation → List ℕ → Type 0
AreSkips ops skips = (place : ℕ) → place < length skips → IsSkip ops place (skip_in skips place)
