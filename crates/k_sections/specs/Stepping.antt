-- The next step of a context, with the one response that the words and the locks give.
use Rattle.std.specs.Prelude.{◌≡◌, ℕ, if◌then◌else◌, Option, Some, None, is_some}
use Rattle.k_ids.specs.declared.calls.Reply.{Reply}
use Rattle.k_locks.specs.declared.locks.Lock.{Lock}
use Rattle.k_locks.specs.Asks.{Ask, Response, Want}
use Rattle.k_locks.specs.Asks as asks
use Rattle.k_locks.specs.Locks.{lowest_held}
use Rattle.k_model.specs.Maps.{upd}
use Rattle.k_script.specs.declared.registers.Next.{Next}
use Rattle.k_script.specs.declared.registers.Next.TheVariants as next
use Rattle.k_ipc.specs.SendTable as send
use Rattle.k_ipc.specs.ReceiveTable as receive
use Rattle.k_threads.specs.CreateTable as create
use Rattle.k_threads.specs.declared.destroy.DestroyCall.{DestroyCall}
use Rattle.k_threads.specs.declared.destroy.DestroyLocked.TheVariants as destroy_locked
use Rattle.k_threads.specs.DestroyTable as destroy
use Rattle.k_caller.specs.declared.thread.ThreadLocation.{ThreadLocation}
use Rattle.k_caller.specs.declared.thread.ThreadLocation.TheVariants as location
use Rattle.k_caller.specs.Waits as alone
use Rattle.k_switch.specs.declared.switch.SwitchCall.{SwitchCall}
use Rattle.k_switch.specs.Switches.{SwitchAt}
use Rattle.k_switch.specs.Switches as switch
use Rattle.k_board.specs.Words.{Programs}
use Rattle.k_board.specs.Boards.{At, Alone, InSend, InReceive, InCreate, InDestroy, InSwitch, Resting, Coming, Nowhere}
use Rattle.k_board.specs.Boards.{Board, id_at, owner_of}
use Rattle.k_board.specs.Steps.{alone_board, begun, begun_at, placed, working}
use Rattle.k_board.specs.Steps.{create_board, destroy_board, receive_board, send_board, switch_board}
use Rattle.k_bound.specs.Sections.{Sections}
use Rattle.k_good.specs.Locks.{locks_at}
use Rattle.k_sections.specs.Situations.{Situation, holder_of, left_of, rest_of, wants_of}
use Rattle.k_sections.specs.Words.{same_words}

-- THE RESPONSE

-- a lock is got where nobody owns it
abbrev pub acquired : Option ℕ → Response
acquired None = asks.Got
acquired (Some owner) = asks.Owned owner

-- a context is removed where it holds no lock
abbrev pub removed_by : Option Lock → Response
removed_by None = asks.Removed
removed_by (Some l) = asks.Kept

-- what the words and the locks answer
abbrev pub response_to : Board → Ask → Response
response_to b (asks.Load number) = asks.Word (b.seen number).word
response_to b (asks.LoadMail number) = asks.Mail (b.seen number).mail
response_to b (asks.Post number message) = asks.Stored
response_to b (asks.Exchange number old new) =
    if same_words (b.seen number).word old then asks.Won else asks.Lost (b.seen number).word
response_to b (asks.Acquire l) = acquired (owner_of b l)
response_to b (asks.Release l) = asks.Released
response_to b (asks.Place id program priority) = asks.Placed
response_to b (asks.Remove id) = removed_by (lowest_held (locks_at (b.context id.number).at))

-- THE STEP

-- what the program gives comes next
abbrev pub called_board : Programs → Board → ℕ → Option Reply → Next → Board
called_board g b i last (next.Phase f) = placed b i (begun g (b.context i) last (begun_at b.size (id_at b i) f))
called_board g b i last (next.Work count) = placed b i (working g (b.context i) last count)

-- One that is asleep is woken. One whose program is over, or that is dead, makes no step.
abbrev pub alone_after : Programs → Board → ℕ → ThreadLocation → Board
alone_after g b i (location.Between last) = called_board g b i last (g.next (b.context i).position last)
alone_after g b i location.Asleep = placed b i (record (b.context i) { at = Alone location.LookAgain })
alone_after g b i location.Ended = b
alone_after g b i location.Dead = b
alone_after g b i p = alone_board g b i (b.context i) p (response_to b (alone.ask_of (id_at b i) (b.context i).own p))

-- a switch that is over leaves its carrier's context at rest
abbrev pub switch_after : Board → ℕ → SwitchCall → SwitchAt → Board
switch_after b i c (switch.Finished s) = placed b i (record (b.context i) { at = Resting })
switch_after b i c p = switch_board b i (b.context i) c p (response_to b (switch.ask_of c p))

-- The board after the next step of context i, which stands there. `calls` tells with which call a carrier's context begins a
-- switch.
abbrev pub board_after : Programs → (Board → ℕ → SwitchCall) → Board → ℕ → At → Board
board_after g calls b i (Alone p) = alone_after g b i p
board_after g calls b i (InSend c p) =
    send_board g b i (b.context i) c p (response_to b (send.ask_of c (b.context i).own p))
board_after g calls b i (InReceive c p) =
    receive_board g b i (b.context i) c p (response_to b (receive.ask_of c (b.context i).own p))
board_after g calls b i (InCreate c p) =
    create_board g b i (b.context i) c p (response_to b (create.ask_of c (b.context i).own p))
board_after g calls b i (InDestroy c p) =
    destroy_board g b i (b.context i) c p (response_to b (destroy.ask_of c (b.context i).own p))
board_after g calls b i (InSwitch c p) = switch_after b i c p
board_after g calls b i Resting = placed b i (record (b.context i) { at = InSwitch (calls b i) switch.AcquireReady })
board_after g calls b i Coming = b
board_after g calls b i Nowhere = b

-- The context makes no step: it isn't there or its thread isn't made yet, or its program is over, or its thread is dead.
pub data IsStill : At → Type 0 where
  is_coming : IsStill Coming
  is_nowhere : IsStill Nowhere
  has_ended : IsStill (Alone location.Ended)
  has_died : IsStill (Alone location.Dead)

-- A turn of context i is its next step; or it removes no context although it could, since a carrier has that in its hand; or it
-- begins a switch by another call.
pub data IsStep (g : Programs) (calls : Board → ℕ → SwitchCall) (b : Board) (i : ℕ) (b' : Board) : Type 0 where
  steps : b' ≡ board_after g calls b i (b.context i).at → IsStep g calls b i b'
  keeps : (c : DestroyCall) → (b.context i).at ≡ InDestroy c (destroy.Locked destroy_locked.RemoveContext) →
      b' ≡ destroy_board g b i (b.context i) c (destroy.Locked destroy_locked.RemoveContext) asks.Kept → IsStep g calls b i b'
  begins : (c : SwitchCall) → (b.context i).at ≡ Resting →
      b' ≡ placed b i (record (b.context i) { at = InSwitch c switch.AcquireReady }) → IsStep g calls b i b'

-- the number, where its context holds no lock
abbrev pub if_removed : ℕ → Option Lock → Option ℕ
if_removed number None = Some number
if_removed number (Some l) = None

-- the number whose context the next step removes
abbrev pub removes : Board → At → Option ℕ
removes b (InDestroy c (destroy.Locked destroy_locked.RemoveContext)) =
    if_removed c.who.number (lowest_held (locks_at (b.context c.who.number).at))
removes b p = None

-- what the removed context was about to wait for is kept
abbrev pub removed_after : Situation → Option ℕ → ℕ → Option (Option Want)
removed_after s None = s.removed
removed_after s (Some number) = upd s.removed number (Some (wants_of s number))

-- what becomes of it by a step of context i; one that was removed makes none
abbrev pub situation_after : Programs → (Board → ℕ → SwitchCall) → Situation → ℕ → Option (Option Want) → Situation
situation_after g calls s i (Some want) = s
situation_after g calls s i None = record {
  board = board_after g calls s.board i (s.board.context i).at;
  removed = removed_after s (removes s.board (s.board.context i).at);
}

-- THE KERNEL'S SECTIONS

-- what the contexts of boards publish, and their steps
abbrev pub kernel_sections : Programs → (Board → ℕ → SwitchCall) → Sections Situation
kernel_sections g calls = record {
  wants = wants_of;
  holder = λ s want. holder_of s.board want;
  rest = rest_of;
  left = left_of;
  step = λ s i. situation_after g calls s i (s.removed i);
  removed = λ s i. is_some (s.removed i);
}
