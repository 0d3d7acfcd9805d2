-- What stands in the queues of senders: who waits has an entry, and each entry is of one that waits, or has another reason to be
-- there.
use Rattle.std.specs.Prelude.{◌≡◌, ◌≢◌, ◌⊎◌, ℕ, ◌<◌, ◌≤◌, ◌&&◌, true, false, Some, None}
use Rattle.k_ids.specs.declared.threads.ThreadId.{ThreadId}
use Rattle.k_senders.specs.declared.entries.SenderEntry.{SenderEntry}
use Rattle.k_senders.specs.Entries.{IsEntry, number_of, sender_of}
use Rattle.k_senders.specs.Queue.{IsOnceEach, entry_of}
use Rattle.k_locks.specs.Shown.{is_dead, is_present_in}
use Rattle.k_script.specs.Plays.{IsInRange}
use Rattle.k_ipc.specs.Words.{sends_to}
use Rattle.k_caller.specs.Waits.{is_waiting}
use Rattle.k_board.specs.Words.{Programs}
use Rattle.k_board.specs.Boards.{Board, id_at}
use Rattle.k_board.specs.Facts.{is_open, waits_for}
use Rattle.k_board.specs.Turns.{excepted_by}
use Rattle.k_good.specs.Good.{IsGood}
use Rattle.k_good.specs.Ranges.{IsWithin}
use Rattle.k_queues.specs.Tasks.{Comes, IsEmptied, IsFreed, IsToVisit, Somewhere, TakesOut, task_of}

-- An entry in the queue of number t is spelled, and is of a thread of the table, whose number is another; and so is t.
pub record IsSender (size t : ℕ) (e : SenderEntry) : Type 0 where
  pub spelled : IsEntry e
  pub sender : IsInRange size (sender_of e)
  pub apart : number_of e ≢ t
  pub inside : t < size

-- Why the entry of number n is in the queue of number t: its sender waits for t's thread; or t's thread has taken its message;
-- or a destroy of t's thread has freed it; or its sender was destroyed, and that destroy has yet to come to t.
pub data Reason (b : Board) (t n : ℕ) (e : SenderEntry) : Type 0 where
  by_wait : waits_for (id_at b t) e (b.seen n).word ≡ true → Reason b t n e
  by_take : task_of b t ≡ TakesOut e → Reason b t n e
  by_free : Somewhere b (λ k. IsFreed k t n) → Reason b t n e
  by_kill : Somewhere b (λ k. IsToVisit k (sender_of e) t) → Reason b t n e

-- the thread of number n has its entry in the queue of this thread
pub record HasEntry (b : Board) (n : ℕ) (to : ThreadId) : Type 0 where
  pub entry : SenderEntry
  pub stands : entry_of n (b.queue to.number) ≡ Some entry
  pub sender : sender_of entry ≡ id_at b n

-- Number n's thread waits for this one: its entry is in the queue, or is about to come there; and whom it waits for is there, or
-- was destroyed by one that hasn't freed all who wait for it.
pub record IsQueued (b : Board) (n : ℕ) (to : ThreadId) : Type 0 where
  pub entry : (task_of b n ≡ Comes to) ⊎ HasEntry b n to
  pub there : (is_present_in (b.seen to.number).word to ≡ true) ⊎ Somewhere b (λ k. IsEmptied k to)

-- The table has at most 64 numbers. No number has two entries in a queue, each entry is of another thread of the table, and has a
-- reason to be there; and who waits to send is queued.
pub record QueuesHold (b : Board) : Type 0 where
  pub size : b.size ≤ 64
  pub once : (t : ℕ) → IsOnceEach (b.queue t)
  pub senders : (t n : ℕ) (e : SenderEntry) → entry_of n (b.queue t) ≡ Some e → IsSender b.size t e
  pub reasons : (t n : ℕ) (e : SenderEntry) → entry_of n (b.queue t) ≡ Some e → Reason b t n e
  pub waiting : (n : ℕ) (to : ThreadId) → sends_to to (b.seen n).word.state ≡ true → IsQueued b n to
  -- whose entry is about to come, and who was destroyed by then: that destroy has yet to come to this queue
  pub coming : (n : ℕ) (to : ThreadId) → task_of b n ≡ Comes to → is_dead (b.seen n).word ≡ true →
      Somewhere b (λ k. IsToVisit k (id_at b n) to.number)
  -- whom a destroy has freed waits no more for the victim
  pub freed : (i t n : ℕ) → IsFreed (task_of b i) t n → sends_to (id_at b t) (b.seen n).word.state ≡ false

-- Whoever waits for number t's thread has its entry in t's queue, and t's thread is there; and nobody else has an entry in it.
pub record IsWhoWaits (b : Board) (t : ℕ) : Type 0 where
  pub entries : (n : ℕ) (e : SenderEntry) → entry_of n (b.queue t) ≡ Some e →
      (sender_of e ≡ id_at b n) × (sends_to (id_at b t) (b.seen n).word.state ≡ true)
  pub waiters : (n : ℕ) (to : ThreadId) → to.number ≡ t → sends_to to (b.seen n).word.state ≡ true →
      HasEntry b n to × (is_present_in (b.seen t).word to ≡ true)

-- A call that waits has no reply yet, as each legal history has it.
abbrev pub CallsUnanswered : Board → Type 0
CallsUnanswered b = (t : ℕ) → is_waiting (b.seen t).word.state ≡ true →
    (excepted_by (b.owner t) b.context t && is_open (b.seen t).word.state) ≡ false → (b.seen t).told ≡ None

-- a board that is good and within its ranges, and whose queues hold
pub record IsProper (g : Programs) (b : Board) : Type 0 where
  pub good : IsGood g b
  pub within : IsWithin b
  pub queues : QueuesHold b
