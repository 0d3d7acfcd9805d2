-- What the logs of wait marks and of links show of a mark. One log of links has those of all carriers' marks, so links of other
-- marks may stand between those of one. Over any log of links: `mark_of` has the index of the mark that a link belongs to, and
-- `link_of` the link.
use Rattle.std.specs.Prelude.{◌≡◌, ℕ, ◌+◌, ◌-◌, ◌^◌, ◌≤◌, ◌==◌, List, length, map, reverse, take, drop, filter, min}
use Rattle.k_locks.specs.Asks.{Want}
use Rattle.k_locks.specs.Steps.{one_more}
use Rattle.k_bound.specs.Waits.{Link, WaitMark, allowed}

-- a count as a log has it: it stands still at the end of its numbers
abbrev pub capped : ℕ → ℕ
capped n = min n (2 ^ 32 - 1)

-- what the log has of a wait mark
pub record MarkEntry : Type 0 where
  pub want : Want
  pub allowed : ℕ
  pub used : ℕ
  -- the index in the log of links from which on its links stand, and how many they are
  pub first : ℕ
  pub count : ℕ

abbrev pub entry_begun : ℕ → Link → MarkEntry
entry_begun first link = record { want = link.found.want; allowed = capped link.left; used = 0; first = first; count = 1 }

abbrev pub entry_linked : Link → MarkEntry → MarkEntry
entry_linked link entry = record entry { allowed = capped (entry.allowed + link.left); count = one_more entry.count }

abbrev pub entry_counted : MarkEntry → MarkEntry
entry_counted entry = record entry { used = one_more entry.used }

-- the logged links of this mark from an index on
abbrev pub links_from : {Logged : Type 0} → (Logged → ℕ) → ℕ → ℕ → List Logged → List Logged
links_from mark_of mark first log = filter (λ logged. mark_of logged == mark) (drop first log)

module _ {Logged : Type 0} (mark_of : Logged → ℕ) (link_of : Logged → Link) where
  -- The links of a mark are the first `count` from index `first` on that are this mark's.
  abbrev pub links_in : ℕ → MarkEntry → List Logged → List Link
  links_in mark entry log = map link_of (take entry.count (links_from mark_of mark entry.first log))

  -- The entry, which has the index `mark`, and the log of links show this mark. Of the steps used they may show fewer.
  pub record IsShown (mark : ℕ) (entry : MarkEntry) (log : List Logged) (shown : WaitMark) : Type 0 where
    pub want : entry.want ≡ shown.want
    pub links : map link_of (links_from mark_of mark entry.first log) ≡ reverse shown.links
    pub count : entry.count ≡ capped (length shown.links)
    pub allowed : entry.allowed ≡ capped (allowed shown.links)
    pub used : entry.used ≤ capped shown.used
    pub first : entry.first ≤ length log

  -- What the log says of a mark that was got: no more used than allowed, and allowed is the sum over its links.
  pub record IsBoundedEntry (mark : ℕ) (entry : MarkEntry) (log : List Logged) : Type 0 where
    pub used : entry.used ≤ entry.allowed
    pub allowed : entry.allowed ≡ capped (allowed (map link_of (links_from mark_of mark entry.first log)))
