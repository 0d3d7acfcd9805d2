-- What the contexts of a board owe altogether, as parts of the measure of a burst.
use Rattle.std.specs.Prelude.{◌≡◌, ℕ, ◌+◌, ◌*◌, ◌≤◌, ◌&&◌, Bool, true, false, if◌then◌else◌, Option, Some}
use Rattle.std.specs.Prelude.{None, List, length}
use Rattle.std.specs.List.{sum_by}
use Rattle.k_ids.specs.declared.threads.ThreadId.{ThreadId}
use Rattle.k_ids.specs.declared.state_word.StateWord.{StateWord}
use Rattle.k_locks.specs.Shown.{is_dead}
use Rattle.k_script.specs.Plays.{Position}
use Rattle.k_room.specs.Room.{sum_below}
use Rattle.k_ipc.specs.declared.send.SendLocked.TheVariants as send_locked
use Rattle.k_ipc.specs.SendTable.{SendAt}
use Rattle.k_ipc.specs.SendTable as send
use Rattle.k_ipc.specs.declared.receive.ReceiveLocked.TheVariants as receive_locked
use Rattle.k_ipc.specs.ReceiveTable.{ReceiveAt}
use Rattle.k_ipc.specs.ReceiveTable as receive
use Rattle.k_threads.specs.CreateTable as create
use Rattle.k_threads.specs.DestroyTable as destroy
use Rattle.k_caller.specs.Waits.{is_waiting}
use Rattle.k_caller.specs.declared.thread.ThreadLocation.TheVariants as location
use Rattle.k_board.specs.Boards.{At, Alone, InSend, InReceive, InCreate, InDestroy, Board}
use Rattle.k_schedule.specs.Parts.{Parts}
use Rattle.k_owed.specs.Owes.{entry_worth, owes, switch_worth}

-- EXCHANGES THAT ARE STILL TO COME, AND AFTER WHICH NO ENTRY IS MADE

-- one that waits, and is on, falls asleep
abbrev pub leave_owed : StateWord → ℕ
leave_owed w = if is_waiting w.state && w.on then 1 else 0

-- the receiver is told that it has the message
abbrev pub owed_send : SendAt → ℕ
owed_send (send.Locked (send_locked.WakeReceiver w)) = 1
owed_send (send.Locked send_locked.ReloadReceiver) = 1
owed_send p = 0

-- the caller goes on, since its partner is gone, or its pick has got a message
abbrev pub owed_receive : ReceiveAt → ℕ
owed_receive (receive.Locked (receive_locked.CommitGone from)) = 1
owed_receive (receive.Locked (receive_locked.EndPick e w)) = 1
owed_receive p = 0

abbrev pub owed_at : At → ℕ
owed_at (InSend c p) = owed_send p
owed_at (InReceive c p) = owed_receive p
owed_at p = 0

abbrev pub owed_by : Board → ℕ → ℕ
owed_by b i = leave_owed (b.seen i).word + owed_at (b.context i).at

-- of so many contexts
abbrev pub owed : Board → ℕ → ℕ
owed b count = sum_below (owed_by b) count

-- STEPS

-- how many threads stand in the ready lists
abbrev pub entries_in : List (List ThreadId) → ℕ
entries_in lists = sum_by length lists

-- the steps of so many contexts while no state word changes, with what is counted for the threads in the
-- ready
-- lists
abbrev pub steps_owed : (work : Position → ℕ) → Board → ℕ → ℕ
steps_owed work b count = sum_below (owes work b) count + entry_worth * entries_in b.lists.lists

-- THE PARTS

-- The history has room for so many entries, so many switches are still to begin, and the carrier is so near.
abbrev pub parts_of : (work : Position → ℕ) → Board → (count room switches near : ℕ) → Parts
parts_of work b count room switches near = record {
  room = room;
  owed = owed b count;
  steps = steps_owed work b count + switch_worth * switches;
  near = near;
}

-- whether the step at a location puts a thread into a ready list
abbrev pub is_some_push : Option ℕ → Bool
is_some_push None = false
is_some_push (Some priority) = true

abbrev pub pushes_at : At → Bool
pushes_at (InSend c p) = is_some_push (send.pushed_at p)
pushes_at (InReceive c p) = is_some_push (receive.pushed_at p)
pushes_at (InCreate c p) = is_some_push (create.pushed_at c p)
pushes_at (InDestroy c p) = is_some_push (destroy.pushed_at c p)
pushes_at p = false

-- a push may begin one switch more
abbrev pub may_begin : Bool → ℕ
may_begin pushes = if pushes then 1 else 0

-- What a thread's turn stands on besides. It follows from who is on, and from what a context knows: one
-- that is
-- about to fall asleep is on, unless it was destroyed; and one that works has work left.
pub record HasStepsLeft (b : Board) (i : ℕ) : Type 0 where
  pub on : (b.context i).at ≡ Alone location.FallAsleep → is_dead (b.seen i).word ≡ false →
      (b.seen i).word.on ≡ true
  pub work : (count : ℕ) → (b.context i).at ≡ Alone (location.Work count) → 1 ≤ count
