-- The entry that the raw world makes is that of the turn's point.
use Rattle.std.proofs.Common.{◌≡◌, ℕ, refl, sym, ◌∙◌, Option, Some, None, [], ◌∷◌, ◌++◌}
use Rattle.k_locks.specs.declared.points.Point.{Point}
use Rattle.k_locks.specs.Points.{entry_with}
use Rattle.k_world.specs.Steps.{recorded}
use Rattle.k_board.specs.Boards.{Board}
use Rattle.k_legal.specs.Runs.{entries_of}
use Rattle.k_places.specs.Answers.{entry_in}

-- where the ledgers have the last serials of the world
pub entry_told : (b : Board) (serial : ℕ → ℕ) → ((n : ℕ) → (b.seen n).last ≡ serial n) → (raw point : Option Point) → raw ≡ point →
    entries_of b point ++ [] ≡ recorded (entry_in serial raw) []
entry_told b serial same raw point e = (λ d. entries_of b (sym e d) ++ []) ∙ by raw
  where
    by : (p : Option Point) → entries_of b p ++ [] ≡ recorded (entry_in serial p) []
    by None = refl
    by (Some p) = λ d. entry_with (λ n. same n d) p ∷ []
