-- A queue of senders: what its list says of a thread, and what is left when an entry is taken out.
use Rattle.std.specs.Prelude.{ℕ, Bool, false, ◌==◌, ◌||◌, if◌then◌else◌, Option, List, [], ◌∷◌}
use Rattle.k_links.specs.declared.rows.Row.{Row}
use Rattle.k_links.specs.Links as links
use Rattle.k_links.specs.Listed as listed
use Rattle.k_senders.specs.declared.entries.SenderEntry.{SenderEntry}
use Rattle.k_senders.specs.Entries.{number_of}

-- What contracts see: the entries, in the order in which they came, and how many numbers there are.
pub record Queue : Type 0 where
  pub entries : List SenderEntry
  pub room : ℕ

-- BY NUMBER: what a list of entries says of a thread number (k_links)

-- the entry of a number
abbrev pub entry_of : ℕ → List SenderEntry → Option SenderEntry
entry_of = listed.entry_of number_of

-- whether an entry has this number
abbrev pub stands : ℕ → List SenderEntry → Bool
stands = listed.stands number_of

-- the number of the first entry
abbrev pub first_number : List SenderEntry → Option ℕ
first_number = listed.first_number number_of

-- the number of the entry that follows the one of a number
abbrev pub number_after : ℕ → List SenderEntry → Option ℕ
number_after = listed.number_after number_of

-- the entry of a number, and the numbers of the entries before and after it
abbrev pub row_of : List SenderEntry → ℕ → Row SenderEntry
row_of = links.row_of number_of

-- The list without the entry of a number. The others keep their order.
abbrev pub without : ℕ → List SenderEntry → List SenderEntry
without = listed.without number_of

-- no two entries have the same number
abbrev pub IsOnceEach : List SenderEntry → Type 0
IsOnceEach = listed.IsOnceEach number_of

-- BY THREAD

-- whether an entry is of this thread
abbrev pub sends : ℕ → List SenderEntry → Bool
sends who [] = false
sends who (e ∷ es) = (e.who == who) || sends who es

-- The list without the first entry of this thread. The others keep their order.
abbrev pub without_thread : ℕ → List SenderEntry → List SenderEntry
without_thread who [] = []
without_thread who (e ∷ es) = if e.who == who then es else e ∷ without_thread who es
