-- A good board: what holds of every board that can be reached, as far as it is proved to be kept; and what its steps stand on besides.
use Rattle.std.specs.Prelude.{◌≡◌, ℕ, ◌<◌, ◌&&◌, not, true, false, length, None}
use Rattle.k_ids.specs.declared.state_word.StateWord.{StateWord}
use Rattle.k_senders.specs.Queue.{IsOnceEach, stands}
use Rattle.k_locks.specs.Numbers.{ThreadNumbers, is_present, version_at}
use Rattle.k_locks.specs.Shown.{is_dead}
use Rattle.k_ipc.specs.declared.send.SendCall.{SendCall}
use Rattle.k_ipc.specs.declared.send.SendLocked.TheVariants as send_locked
use Rattle.k_ipc.specs.SendTable as send
use Rattle.k_threads.specs.declared.destroy.DestroyCall.{DestroyCall}
use Rattle.k_threads.specs.declared.destroy.DestroyVictim.TheVariants as victim
use Rattle.k_threads.specs.DestroyTable as destroy
use Rattle.k_threads.specs.Words.{dead_word}
use Rattle.k_caller.specs.Waits.{is_waiting}
use Rattle.k_board.specs.Words.{Programs, Seen}
use Rattle.k_board.specs.Boards.{Board, Context, InDestroy, InSend, Nowhere}
use Rattle.k_board.specs.Facts.{AllWait, is_open}
use Rattle.k_board.specs.Places.{PlacesHold}
use Rattle.k_board.specs.Turns.{excepted_by}
use Rattle.k_good.specs.Locks.{LocksHold}
use Rattle.k_good.specs.Numbers.{NumbersHold}
use Rattle.k_good.specs.Outward.{SendsOutward}

pub record IsGood (g : Programs) (b : Board) : Type 0 where
  pub places : PlacesHold g b
  pub locks : LocksHold b.owner b.table b.ready b.context
  pub numbers : NumbersHold b.seen b.numbers b.table b.context
  pub outward : SendsOutward b.seen

-- What context i's next step stands on besides: no number has two entries in a queue; a call that waits has no reply yet, as each legal
-- history has it; who begins to wait has no entry of before; and those in the queue of one that is destroyed wait for it.
pub record QueuesTell (b : Board) (i : ℕ) : Type 0 where
  pub once : (t : ℕ) → IsOnceEach (b.queue t)
  pub unanswered : (t : ℕ) → is_waiting (b.seen t).word.state ≡ true →
      (excepted_by (b.owner t) b.context t && is_open (b.seen t).word.state) ≡ false → (b.seen t).told ≡ None
  pub fresh : (c : SendCall) → (b.context i).at ≡ InSend c (send.Locked send_locked.CommitWait) →
      (b.seen i).word ≡ (b.context i).own → stands c.caller.number (b.queue c.to.number) ≡ false
  pub row : (c : DestroyCall) (w : StateWord) → (b.context i).at ≡ InDestroy c (destroy.Victim (victim.CommitKill w)) →
      (b.seen c.who.number).word ≡ w → AllWait c.who b.seen (b.queue c.who.number)

-- The list of numbers agrees with the words, and a number without a thread has no context.
pub record NumbersAgree (seen : ℕ → Seen) (numbers : ThreadNumbers) (context : ℕ → Context) : Type 0 where
  pub whole : length numbers.present ≡ length numbers.versions
  pub spelled : (t : ℕ) → is_dead (seen t).word ≡ true → (seen t).word ≡ dead_word (seen t).word.version
  pub version : (t : ℕ) → version_at numbers t ≡ (seen t).word.version
  pub present : (t : ℕ) → is_present numbers t ≡ not (is_dead (seen t).word)
  pub vacant : (t : ℕ) → t < length numbers.versions → is_dead (seen t).word ≡ true → (context t).at ≡ Nowhere
