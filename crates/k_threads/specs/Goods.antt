-- What becomes of what a lock guards, and the locks that a create or a destroy holds.
use Rattle.std.specs.Prelude.{ℕ, List, [], ◌∷◌, if◌then◌else◌, Option, Some, None, map}
use Rattle.k_ids.specs.declared.threads.ThreadId.{ThreadId}
use Rattle.k_ready.specs.Lists.{Ready, has_thread, without}
use Rattle.k_senders.specs.declared.entries.SenderEntry.{SenderEntry}
use Rattle.k_senders.specs.Entries.{who_of}
use Rattle.k_senders.specs.Queue.{Queue, without_thread}
use Rattle.k_locks.specs.declared.locks.Lock.{Lock}
use Rattle.k_locks.specs.declared.locks.Lock.TheVariants as lock

-- A thread that stands in a list is taken out.
abbrev pub without_it : ThreadId → List ThreadId → List ThreadId
without_it id es = if has_thread id es then without id.number es else es

abbrev pub unlisted : ThreadId → Ready → Ready
unlisted id r = record r { lists = map (without_it id) r.lists }

-- The thread's entry is taken out.
abbrev pub unlinked : ThreadId → Queue → Queue
unlinked id q = record q { entries = without_thread (who_of id) q.entries }

-- The first entry is taken out.
abbrev pub rest : List SenderEntry → List SenderEntry
rest [] = []
rest (e ∷ es) = es

abbrev pub without_first : Queue → Queue
without_first q = record q { entries = rest q.entries }

-- THE LOCKS HELD, BY RANK

abbrev pub no_lock : List (Option Lock)
no_lock = None ∷ None ∷ None ∷ []

abbrev pub only_table : List (Option Lock)
only_table = Some lock.Table ∷ None ∷ None ∷ []

abbrev pub table_and_thread : ℕ → List (Option Lock)
table_and_thread number = Some lock.Table ∷ Some (lock.Thread number) ∷ None ∷ []

abbrev pub table_and_ready : List (Option Lock)
table_and_ready = Some lock.Table ∷ None ∷ Some lock.Ready ∷ []

abbrev pub all_three : ℕ → List (Option Lock)
all_three number = Some lock.Table ∷ Some (lock.Thread number) ∷ Some lock.Ready ∷ []
