-- Which locations have a next step, and what the next step of a context is.
use Rattle.std.specs.Prelude.{◌≡◌, ℕ, ◌+◌, Bool, true, false}
use Rattle.k_ipc.specs.declared.send.SendOutside.TheVariants as send_outside
use Rattle.k_ipc.specs.SendTable as send
use Rattle.k_ipc.specs.declared.receive.ReceiveOutside.TheVariants as receive_outside
use Rattle.k_ipc.specs.declared.receive.ReceiveLocked.{ReceiveLocked}
use Rattle.k_ipc.specs.declared.receive.ReceiveLocked.TheVariants as receive_locked
use Rattle.k_ipc.specs.ReceiveTable as receive
use Rattle.k_threads.specs.declared.create.CreateOutside.TheVariants as create_outside
use Rattle.k_threads.specs.CreateTable as create
use Rattle.k_threads.specs.declared.destroy.DestroyOutside.TheVariants as destroy_outside
use Rattle.k_threads.specs.DestroyTable as destroy
use Rattle.k_caller.specs.declared.thread.ThreadLocation.TheVariants as location
use Rattle.k_caller.specs.Waits.{can_ask}
use Rattle.k_switch.specs.declared.switch.SwitchCall.{SwitchCall}
use Rattle.k_board.specs.Words.{Programs}
use Rattle.k_board.specs.Boards.{At, Alone, InSend, InReceive, InCreate, InDestroy, InSwitch, Resting, Coming, Nowhere, Board}
use Rattle.k_board.specs.Turns.{Turn, is_going}
use Rattle.k_tokens.specs.World.{ContextName, OfCarrier, OfThread}
use Rattle.k_sections.specs.Stepping.{board_after}

-- Between two calls the program goes on. A section and a switch go on until they are over. Who is asleep is woken first, and
-- nothing comes after the end or once the thread was destroyed.
abbrev pub has_next : At → Bool
has_next (Alone (location.Between last)) = true
has_next (Alone p) = can_ask p
has_next (InSend c (send.Outside (send_outside.Ended w))) = false
has_next (InSend c p) = true
has_next (InReceive c (receive.Outside (receive_outside.Ended w))) = false
has_next (InReceive c p) = true
has_next (InCreate c (create.Outside (create_outside.Ended w))) = false
has_next (InCreate c p) = true
has_next (InDestroy c (destroy.Outside (destroy_outside.Ended w))) = false
has_next (InDestroy c p) = true
has_next (InSwitch c p) = is_going p
has_next Resting = false
has_next Coming = false
has_next Nowhere = false

-- the context's number on the board: those of threads come first
abbrev pub number_of : Board → ContextName → ℕ
number_of b (OfThread t) = t
number_of b (OfCarrier d) = b.size + d

-- The location has a next step, and what the words and the locks answer makes it a turn.
pub record HasStep (g : Programs) (calls : Board → ℕ → SwitchCall) (b : Board) (i : ℕ) : Type 0 where
  pub next : has_next (b.context i).at ≡ true
  pub turn : Turn g b i (board_after g calls b i (b.context i).at)

-- A receive or a pick exchanges its caller's word under the caller's own lock.
abbrev pub settles : ReceiveLocked → Bool
settles receive_locked.CommitWait = true
settles (receive_locked.CommitGone from) = true
settles (receive_locked.EndPick e w) = true
settles receive_locked.SettlePick = true
settles p = false
