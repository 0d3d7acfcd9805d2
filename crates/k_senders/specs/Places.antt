-- What an entry at a position tells of its number, and what is known of a thread.
use Rattle.std.specs.Prelude.{◌≡◌, ℕ, Bool, true, false, ◌==◌, Option, Some, None, List, remove, slice_get, drop, ◌+◌}
use Rattle.k_senders.specs.declared.entries.SenderEntry.{SenderEntry}
use Rattle.k_senders.specs.Entries.{thread_of}
use Rattle.k_senders.specs.Queue.{entry_of, first_number, number_after, sends, stands, without, without_thread}

-- whether an entry is there, and of this thread
abbrev pub is_of : ℕ → Option SenderEntry → Bool
is_of who None = false
is_of who (Some e) = e.who == who

-- what the number at a position tells
pub record IsNumberAt (es : List SenderEntry) (i n : ℕ) : Type 0 where
  pub standing : stands n es ≡ true
  pub entry : entry_of n es ≡ slice_get es i
  pub after : number_after n es ≡ first_number (drop (i + 1) es)
  pub without_it : without n es ≡ remove es i

-- what is known of a thread, by whether it has an entry
pub record IsKnown (es : List SenderEntry) (who : ℕ) (found : Bool) : Type 0 where
  pub answer : found ≡ sends who es
  pub standing : found ≡ true → stands (thread_of who).number es ≡ true
  pub taken : found ≡ true → without_thread who es ≡ without (thread_of who).number es
  pub absent : found ≡ false → without_thread who es ≡ es
