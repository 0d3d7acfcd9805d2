-- Numbers: decimal digits without leading zeros.
use Rattle.std.specs.Prelude.{ℕ, ◌+◌, ◌-◌, ◌*◌, ◌==◌, nat_le, Bool, true, false, not, ◌&&◌, List, [], ◌∷◌, Option, Some, None, if◌then◌else◌}
use Rattle.std.specs.Str.{all_ascii_digits}

-- the number that digits write, behind one that was read before
abbrev pub read_on : ℕ → List ℕ → ℕ
read_on n [] = n
read_on n (c ∷ cs) = read_on (10 * n + (c - 48)) cs

-- not empty, and no zero in front of another digit
abbrev pub has_form : List ℕ → Bool
has_form [] = false
has_form (c ∷ []) = true
has_form (c ∷ d ∷ cs) = not (c == 48)

abbrev pub digits_of : ℕ → List ℕ → Option ℕ
digits_of most w = if all_ascii_digits w && nat_le (read_on 0 w) most then Some (read_on 0 w) else None

-- The number that a word writes, if it writes one of at most this size. The word is then `decimal` of the number.
unfoldable pub number_of : ℕ → List ℕ → Option ℕ
number_of most w = if has_form w then digits_of most w else None
