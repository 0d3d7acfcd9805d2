-- Ready lists: for each priority the threads that run and wait for the processor, in the order in which they are to go on.
use Rattle.std.specs.Prelude.{◌≡◌, ◌<◌, ℕ, Bool, true, false, ◌==◌, ◌&&◌, ◌||◌, Option, Some, None, List, [], ◌∷◌, slice_index_or, slice_set}
use Rattle.k_ids.specs.declared.threads.ThreadId.{ThreadId}
use Rattle.k_links.specs.Listed as listed

-- What contracts see: a list for each priority, and the number `running`.
pub record Ready : Type 0 where
  pub lists : List (List ThreadId)
  pub running : ℕ

-- the list of a priority
abbrev pub list_of : List (List ThreadId) → ℕ → List ThreadId
list_of lists priority = slice_index_or lists priority []

-- BY NUMBER: what one list says of a thread number (k_links)

-- the thread number of an entry
abbrev pub number_of : ThreadId → ℕ
number_of e = e.number

-- the entry of a number
abbrev pub entry_of : ℕ → List ThreadId → Option ThreadId
entry_of = listed.entry_of number_of

-- whether an entry has this number
abbrev pub stands : ℕ → List ThreadId → Bool
stands = listed.stands number_of

-- The list without the entry of a number. The others keep their order.
abbrev pub without : ℕ → List ThreadId → List ThreadId
without = listed.without number_of

-- no two entries have the same number
abbrev pub IsOnceEach : List ThreadId → Type 0
IsOnceEach = listed.IsOnceEach number_of

-- ONE LIST

-- whether a thread, this number with this version, stands in a list
abbrev pub has_thread : ThreadId → List ThreadId → Bool
has_thread id [] = false
has_thread id (e ∷ es) = (e.number == id.number && e.version == id.version) || has_thread id es

-- the first entry
abbrev pub first_of : List ThreadId → Option ThreadId
first_of [] = None
first_of (e ∷ es) = Some e

-- whether a list has no entry
abbrev pub is_empty : List ThreadId → Bool
is_empty [] = true
is_empty (e ∷ es) = false

-- bit p of the mask: 1 exactly where list p isn't empty
abbrev pub mask_bit : List ThreadId → ℕ
mask_bit [] = 0
mask_bit (e ∷ es) = 1

-- ALL LISTS

-- a number that stands in no list
abbrev pub IsInNone : ℕ → List (List ThreadId) → Type 0
IsInNone n lists = (priority : ℕ) → stands n (list_of lists priority) ≡ false

-- One list is changed. The others and `running` are as they were.
abbrev pub with_list : Ready → ℕ → List ThreadId → Ready
with_list r priority es = record r { lists = slice_set r.lists priority es }

-- A thread is taken out of the list in which it stands.
pub record IsRemoved (before after : Ready) (id : ThreadId) (priority : ℕ) : Type 0 where
  pub inside : priority < 64
  pub standing : has_thread id (list_of before.lists priority) ≡ true
  pub taken : after ≡ with_list before priority (without id.number (list_of before.lists priority))
