-- Numbers: decimal digits.
use Rattle.std.specs.Prelude.{ℕ, ◌+◌, ◌-◌, ◌*◌, ◌≡◌, ◌≤◌, ◌==◌, nat_le, min, Bool, false, not, ◌&&◌, List, [], ◌∷◌, Option, Some, None, if◌then◌else◌}
use Rattle.std.specs.Str.{all_ascii_digits}
use Rattle.k_lines.specs.declared.numeral.Numeral.{Numeral}

-- the number that digits write, behind one that was read before
abbrev pub read_on : ℕ → List ℕ → ℕ
read_on n [] = n
read_on n (c ∷ cs) = read_on (10 * n + (c - 48)) cs

-- a zero in front of another digit
abbrev pub leads_zero : List ℕ → Bool
leads_zero [] = false
leads_zero (c ∷ []) = false
leads_zero (c ∷ d ∷ cs) = c == 48

-- No number of a script is above 4294967295, so 4294967296 stands for all that are.
abbrev pub digits_of : List ℕ → Option ℕ
digits_of w = if all_ascii_digits w then Some (min (read_on 0 w) 4294967296) else None

abbrev pub with_lead : Bool → Option ℕ → Option Numeral
with_lead led None = None
with_lead led (Some n) = Some (record { led = led; value = n })

-- A number's form is one or more digits.
unfoldable pub numeral_of : List ℕ → Option Numeral
numeral_of [] = None
numeral_of (c ∷ cs) = with_lead (leads_zero (c ∷ cs)) (digits_of (c ∷ cs))

-- the number that a numeral writes, if it has no leading zero and is in the range
abbrev pub in_range : ℕ → ℕ → Numeral → Option ℕ
in_range least most n = if not n.led && nat_le least n.value && nat_le n.value most then Some n.value else None

-- It is a number of a script: its word is then `decimal` of the value.
pub record IsNumber (n : Numeral) : Type 0 where
  pub plain : n.led ≡ false
  pub small : n.value ≤ 4294967295

-- the numeral of a number
abbrev pub exactly : ℕ → Numeral
exactly n = record { led = false; value = n }
