-- Runs of a board: turns of any contexts, one after another, and the entries of their points. Every interleaving is a run.
use Rattle.std.specs.Prelude.{◌≡◌, ℕ, ◌≤◌, false, Option, Some, None, List, [], ◌∷◌, ◌++◌}
use Rattle.k_ids.specs.declared.histories.Entry.{Entry}
use Rattle.k_ids.specs.declared.state_word.StateWord.{StateWord}
use Rattle.k_model.specs.State.{KernelState}
use Rattle.k_senders.specs.Queue.{IsOnceEach, stands}
use Rattle.k_locks.specs.Points.{entry_with}
use Rattle.k_locks.specs.declared.points.Point.{Point}
use Rattle.k_ipc.specs.declared.send.SendCall.{SendCall}
use Rattle.k_ipc.specs.declared.send.SendLocked.TheVariants as send_locked
use Rattle.k_ipc.specs.SendTable as send
use Rattle.k_threads.specs.declared.destroy.DestroyCall.{DestroyCall}
use Rattle.k_threads.specs.declared.destroy.DestroyVictim.TheVariants as victim
use Rattle.k_threads.specs.DestroyTable as destroy
use Rattle.k_board.specs.Words.{Programs}
use Rattle.k_board.specs.Boards.{Board, InDestroy, InSend}
use Rattle.k_board.specs.Facts.{AllWait}
use Rattle.k_board.specs.Turns.{Turn}
use Rattle.k_good.specs.Good.{IsGood}
use Rattle.k_good.specs.Ranges.{IsWithin}
use Rattle.k_points.specs.Points.{Grows, lasts, turn_point}
use Rattle.k_legal.specs.Follows.{IsFollowed}
use Rattle.k_legal.specs.Waiting.{MessagesHold}

-- What context i's next turn stands on besides, of queues. It isn't proved here: it follows from an invariant on queues.
pub record QueuesServe (b : Board) (i : ℕ) : Type 0 where
  pub once : (t : ℕ) → IsOnceEach (b.queue t)
  pub fresh : (c : SendCall) → (b.context i).at ≡ InSend c (send.Locked send_locked.CommitWait) →
      (b.seen i).word ≡ (b.context i).own → stands c.caller.number (b.queue c.to.number) ≡ false
  pub row : (c : DestroyCall) (w : StateWord) →
      (b.context i).at ≡ InDestroy c (destroy.Victim (victim.CommitKill w)) →
      (b.seen c.who.number).word ≡ w → AllWait c.who b.seen (b.queue c.who.number)

-- All that is proved of a board that can be reached, but for its queues; and the state of the one-step kernel that it shows.
pub record IsLawful (g : Programs) (b : Board) (k : KernelState) : Type 0 where
  pub good : IsGood g b
  pub within : IsWithin b
  pub messages : MessagesHold b.context
  pub small : b.size ≤ 64
  pub followed : IsFollowed b k

-- a turn with this point: the new board is lawful again, and the history grows by nothing or by the point's entry
pub record GoesOn (g : Programs) (b : Board) (k : KernelState) (p : Option Point) (b' : Board) : Type 0 where
  pub new : KernelState
  pub lawful : IsLawful g b' new
  pub history : Grows g b k p new b'

-- the entry of a point
abbrev pub entries_of : Board → Option Point → List Entry
entries_of b None = []
entries_of b (Some p) = entry_with (lasts b) p ∷ []

-- A run from a board, with the history that it leaves.
pub data Run (g : Programs) (b : Board) : List Entry → Board → Type 0 where
  stays : Run g b [] b
  turns : (es : List Entry) (m : Board) (i : ℕ) (b' : Board) → Run g b es m → (t : Turn g m i b') →
      Run g b (es ++ entries_of m (turn_point g m i b' t)) b'
