-- How a list is linked through rows, one for each number, and what a change of one link does to each row.
use Rattle.std.specs.Prelude.{◌≡◌, ◌<◌, ℕ, zero, suc, Bool, false, ◌==◌, if◌then◌else◌, Option, Some, None, List, [], ◌∷◌, length, slice_index_or}
use Rattle.k_links.specs.declared.rows.Row.{Row}
use Rattle.k_links.specs.Listed.{IsOnceEach, entry_of, first_number, number_after, number_before}

-- the row of a number that no entry has
abbrev pub empty_row : {E : Type 0} → Row E
empty_row = record { entry = None; prior = None; next = None }

abbrev pub row_at : {E : Type 0} → List (Row E) → ℕ → Row E
row_at rows n = slice_index_or rows n empty_row

-- The entries that are met from a number on, along `next`, at most so many.
abbrev pub met : {E : Type 0} → Option E → List E → List E
met None es = []
met (Some e) es = e ∷ es

unfoldable pub walked : {E : Type 0} → List (Row E) → ℕ → Option ℕ → List E
walked rows zero at = []
walked rows (suc k) None = []
walked rows (suc k) (Some n) = met (row_at rows n).entry (walked rows k (row_at rows n).next)

module _ {E : Type 0} (number : E → ℕ) where
  -- The row of number n: its entry, and the numbers of the entries before and after it. All three are None where no entry
  -- has number n.
  abbrev pub row_of : List E → ℕ → Row E
  row_of es n = record { entry = entry_of number n es; prior = number_before number None n es; next = number_after number n es }

  -- the number of the last entry of a list that follows an entry of number `prior`
  abbrev pub last_after : Option ℕ → List E → Option ℕ
  last_after prior [] = prior
  last_after prior (e ∷ es) = last_after (Some (number e)) es

  abbrev pub last_number : List E → Option ℕ
  last_number es = last_after None es

  -- The rows, the two ends and the count are those of a list whose entries have a number each.
  pub record IsLinked (rows : List (Row E)) (head tail : Option ℕ) (many : ℕ) (es : List E) : Type 0 where
    pub shown : (n : ℕ) → row_at rows n ≡ row_of es n
    pub first : head ≡ first_number number es
    pub last : tail ≡ last_number es
    pub count : many ≡ length es
    pub once : IsOnceEach number es

-- whether a link leads to number n
abbrev pub leads_to : Option ℕ → ℕ → Bool
leads_to None n = false
leads_to (Some m) n = m == n

-- a row with another `next`, or another `prior`, where its number is the one that a link names
abbrev pub with_next : {E : Type 0} → Option ℕ → Option ℕ → ℕ → Row E → Row E
with_next named link n row = if leads_to named n then record row { next = link } else row

abbrev pub with_prior : {E : Type 0} → Option ℕ → Option ℕ → ℕ → Row E → Row E
with_prior named link n row = if leads_to named n then record row { prior = link } else row

-- a link names a number below `size`, if any
abbrev pub IsBelow : Option ℕ → ℕ → Type 0
IsBelow None size = Unit {0}
IsBelow (Some m) size = m < size

-- an end of the list: where there is no neighbour on that side, it becomes another
abbrev pub end_of : Option ℕ → Option ℕ → Option ℕ → Option ℕ
end_of None old new = new
end_of (Some m) old new = old
