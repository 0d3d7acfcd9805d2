-- The first thread of the highest list that isn't empty, and the lists without it.
use Rattle.std.specs.Prelude.{◌≡◌, ◌<◌, ℕ, zero, suc, Option, Some, None, List, [], ◌∷◌, drop}
use Rattle.k_ids.specs.declared.threads.ThreadId.{ThreadId}
use Rattle.k_ready.specs.Lists.{Ready, first_of, list_of, with_list}

-- a thread, and the priority of its list
pub record Level : Type 0 where
  pub id : ThreadId
  pub priority : ℕ

-- the first thread of a list of this priority, or else what is found lower
abbrev pub first_or : List ThreadId → ℕ → Option Level → Option Level
first_or [] priority lower = lower
first_or (e ∷ es) priority lower = Some record { id = e; priority = priority }

-- the first thread of the highest list below a priority that isn't empty
unfoldable pub highest_below : ℕ → List (List ThreadId) → Option Level
highest_below zero lists = None
highest_below (suc p) lists = first_or (list_of lists p) p (highest_below p lists)

-- the thread that is to go on first: None where all lists are empty
abbrev pub highest : Ready → Option Level
highest r = highest_below 64 r.lists

abbrev pub without_level : Ready → Option Level → Ready
without_level r None = r
without_level r (Some l) = with_list r l.priority (drop 1 (list_of r.lists l.priority))

-- the lists without that thread
abbrev pub popped : Ready → Ready
popped r = without_level r (highest r)

-- its number, version and priority
abbrev pub parts_of : Option Level → Option (ℕ × ℕ × ℕ)
parts_of None = None
parts_of (Some l) = Some (l.id.number, l.id.version, l.priority)

-- the first thread of a list that isn't empty, above which all are
pub record IsHighest (r : Ready) (l : Level) : Type 0 where
  pub inside : l.priority < 64
  pub above : (priority : ℕ) → l.priority < priority → list_of r.lists priority ≡ []
  pub first : first_of (list_of r.lists l.priority) ≡ Some l.id
