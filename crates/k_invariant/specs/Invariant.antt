-- The invariant of the kernel on boards: all that holds of every board that can be reached from the start of a script, by turns
-- of any contexts in any order; and the history that was made on the way.
use Rattle.std.specs.Prelude.{◌≡◌, ◌⊎◌, ℕ, ◌<◌, ◌≤◌, false, length, slice_index_or, Option, None, List, ◌++◌}
use Rattle.k_ids.specs.declared.histories.Entry.{Entry}
use Rattle.k_model.specs.State.{KernelState}
use Rattle.k_locks.specs.declared.points.Point.{Point}
use Rattle.k_script.specs.Script.{Script}
use Rattle.k_script.specs.Plays.{IsWithin, first_id}
use Rattle.k_positions.specs.Positions.{program_at}
use Rattle.k_locks.specs.Shown.{is_dead}
use Rattle.k_caller.specs.declared.thread.ThreadLocation.TheVariants as location
use Rattle.k_board.specs.Boards.{Alone, Board}
use Rattle.k_partners.specs.Partners.{PartnersHold}
use Rattle.k_queues.specs.Queues.{IsProper}
use Rattle.k_points.specs.Points.{Grows}
use Rattle.k_legal.specs.Follows.{IsFollowed}
use Rattle.k_legal.specs.Runs.{entries_of}
use Rattle.k_points.specs.Starts.{IsFirstBoard}
use Rattle.k_legal.specs.Waiting.{MessagesHold}
use Rattle.k_plays.specs.Ledgers.{AreLedgers}
use Rattle.k_plays.specs.Messages.{IsFilled}
use Rattle.k_plays.specs.Scripts.{ranged_programs}

-- The board is good, its queues hold, and whoever waits for one thread waits for one that is there, or is about to wait no
-- more; the history that was made plays the script, leaves this state of the one-step kernel, and the board shows that state.
pub record BoardHolds (script : Script) (b : Board) (entries : List Entry) (k : KernelState) : Type 0 where
  pub size : b.size ≡ script.table
  pub proper : IsProper (ranged_programs script) b
  pub partners : PartnersHold b
  pub messages : MessagesHold b.context
  pub followed : IsFollowed b k
  pub ledgers : AreLedgers script entries k b.seen

-- a board with a history that was made on the way to it
pub record Holds (script : Script) (b : Board) : Type 0 where
  pub entries : List Entry
  pub state : KernelState
  pub holds : BoardHolds script b entries state

-- The turn with this point leads to a board on which the same holds, and the history grows by nothing or by the point's entry,
-- which the one-step kernel makes then.
pub record GoesOn (script : Script) (b : Board) (entries : List Entry) (k : KernelState) (p : Option Point) (b' : Board) : Type 0 where
  pub new : KernelState
  pub history : Grows (ranged_programs script) b k p new b'
  pub holds : BoardHolds script b' (entries ++ entries_of b p) new

-- The board on which the kernel begins to run a script: each thread of it stands at the start of its program, and the other
-- numbers are dead, with the versions that they had last.
pub record IsOpeningBoard (script : Script) (b : Board) : Type 0 where
  pub size : b.size ≡ script.table
  pub first : IsFirstBoard (ranged_programs script) b (length script.threads)
  pub aged : (t : ℕ) → length script.threads ≤ t →
      slice_index_or b.numbers.versions t 0 ≡ slice_index_or script.aged t 0
  pub programs : (t : ℕ) → t < length script.threads →
      (b.seen t).position ≡ (ranged_programs script).start (first_id t) (program_at script t)
  pub within : (t : ℕ) → t < script.table → IsWithin script (b.seen t).position
  pub filled : (t : ℕ) → t < script.table → IsFilled (b.seen t).position

-- Nobody owns a lock of a thread or that of the table, and each thread that is there is off: it sleeps, or its program is over.
pub record AllRest (b : Board) : Type 0 where
  pub table : b.table ≡ None
  pub owner : (t : ℕ) → b.owner t ≡ None
  pub off : (t : ℕ) → is_dead (b.seen t).word ≡ false → (b.seen t).word.on ≡ false
  pub places : (t : ℕ) → is_dead (b.seen t).word ≡ false →
      ((b.context t).at ≡ Alone location.Asleep) ⊎ ((b.context t).at ≡ Alone location.Ended)
