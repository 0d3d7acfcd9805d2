-- A list of entries, each with a number: what it says of a number, and what is left when an entry is taken out.
use Rattle.std.specs.Prelude.{◌≡◌, ℕ, Bool, false, ◌==◌, ◌||◌, if◌then◌else◌, Option, Some, None, List, [], ◌∷◌}

-- What contracts see: the entries in their order, and how many numbers there are.
pub record Linked (E : Type 0) : Type 0 where
  pub entries : List E
  pub room : ℕ

module _ {E : Type 0} (number : E → ℕ) where
  -- the entry of a number
  abbrev pub entry_of : ℕ → List E → Option E
  entry_of n [] = None
  entry_of n (e ∷ es) = if number e == n then Some e else entry_of n es

  -- whether an entry has this number
  abbrev pub stands : ℕ → List E → Bool
  stands n [] = false
  stands n (e ∷ es) = (number e == n) || stands n es

  -- the number of the first entry
  abbrev pub first_number : List E → Option ℕ
  first_number [] = None
  first_number (e ∷ es) = Some (number e)

  -- the number of the entry that follows the one of number n
  abbrev pub number_after : ℕ → List E → Option ℕ
  number_after n [] = None
  number_after n (e ∷ es) = if number e == n then first_number es else number_after n es

  -- the number of the entry before the one of number n, in a list that follows an entry of number `prior`
  abbrev pub number_before : Option ℕ → ℕ → List E → Option ℕ
  number_before prior n [] = None
  number_before prior n (e ∷ es) = if number e == n then prior else number_before (Some (number e)) n es

  -- The list without the first entry of number n. The others keep their order.
  abbrev pub without : ℕ → List E → List E
  without n [] = []
  without n (e ∷ es) = if number e == n then es else e ∷ without n es

  -- no two entries have the same number
  abbrev pub IsOnceEach : List E → Type 0
  IsOnceEach [] = Unit {0}
  IsOnceEach (e ∷ es) = (stands (number e) es ≡ false) × IsOnceEach es
