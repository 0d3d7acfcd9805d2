-- A list is cut at the first element that passes.
use Rattle.std.proofs.Common.{◌≡◌, ℕ, ◌<◌, Bool, List, [], length, arith, Option, Some, None, position}
use Rattle.k_lists.proofs.Positions.{position_at}
use Rattle.k_lines.specs.Words.{parted}

-- the words in what is left of a line, if anything is
abbrev pub parted_rest : Option (List ℕ) → List (List ℕ)
parted_rest None = []
parted_rest (Some text) = parted text

pub found_inside : (p : ℕ → Bool) (xs : List ℕ) (at : ℕ) → position p xs ≡ Some at → at < length xs
found_inside p xs at e = let f = position_at p xs at e in let same = f.0 in let l = f.1 in omega (arith, same, l)
