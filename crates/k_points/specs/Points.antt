-- The linearization points of a board's turns: each is one event of the sequential specification, with the outcome that the
-- specification gives it; and a turn without a point leaves the state that the board shows (refinement, Lynch and Vaandrager).
use Rattle.std.specs.Prelude.{◌≡◌, ℕ, Option, Some, None, Ok, List, [], false, map}
use Rattle.std.specs.List.{filter}
use Rattle.k_ids.specs.declared.calls.Act.{Act}
use Rattle.k_ids.specs.declared.calls.Act.TheVariants as act
use Rattle.k_model.specs.State.{KernelState, Waiting}
use Rattle.k_model.specs.Step.{step}
use Rattle.k_script.specs.Plays.{Position}
use Rattle.k_senders.specs.Entries.{number_of}
use Rattle.k_locks.specs.Points.{entry_with}
use Rattle.k_locks.specs.Shown.{is_dead}
use Rattle.k_locks.specs.declared.points.Point.{Point}
use Rattle.k_ipc.specs.SendTable as send
use Rattle.k_ipc.specs.declared.receive.ReceiveCall.{ReceiveCall}
use Rattle.k_ipc.specs.ReceiveTable.{ReceiveAt}
use Rattle.k_ipc.specs.ReceiveTable as receive
use Rattle.k_threads.specs.CreateTable as create
use Rattle.k_threads.specs.DestroyTable as destroy
use Rattle.k_caller.specs.Waits as alone
use Rattle.k_board.specs.Words.{Begins, Programs, Seen}
use Rattle.k_board.specs.Boards.{Board, InReceive, hand_of, id_at}
use Rattle.k_board.specs.Facts.{waits_for}
use Rattle.k_board.specs.Steps.{destroy_number}
use Rattle.k_board.specs.Turns.{Turn, begins, begins_switch, creates, destroys, ends_switch, goes_alone, receives, sends, switches, turns_to_work, wakes}
use Rattle.k_shown.specs.Memory.{waiting_of}
use Rattle.k_points.specs.Shown.{IsShown, Tells, shown}

-- each number's last serial by the ledger, from which a point's event has its own
abbrev pub lasts : Board → ℕ → ℕ
lasts b n = (b.seen n).last

-- The point of a turn, if it has one: that of the section, or of the thread outside of any. A switch has none.
abbrev pub turn_point : (g : Programs) (b : Board) (i : ℕ) (b' : Board) → Turn g b i b' → Option Point
turn_point g b i _ (sends c p r at an) = send.points c (b.seen i).word (hand_of b (b.queue c.to.number)) p r
turn_point g b i _ (receives c p r at an) = receive.points c (b.seen i).word (hand_of b (b.queue i)) p r
turn_point g b i _ (creates c p r at an) = create.points c (b.seen i).word (hand_of b []) p r
turn_point g b i _ (destroys c p r at an) =
    destroy.points c (b.seen i).word (hand_of b (b.queue (destroy_number c p))) p r
turn_point g b i _ (goes_alone p r at can an) = alone.points (id_at b i) p r
turn_point g b i _ (begins l f at e) = None
turn_point g b i _ (turns_to_work l count at e) = None
turn_point g b i _ (wakes at) = None
turn_point g b i _ (switches c p r at going an) = None
turn_point g b i _ (begins_switch c at) = None
turn_point g b i _ (ends_switch c s at) = None

-- two numbers, or one before and after, have the same ledger
pub record SameLedger (v w : Seen) : Type 0 where
  pub last : w.last ≡ v.last
  pub told : w.told ≡ v.told
  pub position : w.position ≡ v.position

-- A call is the one that the program gives after the ledger's position and reply, and the program then stands after it. Another
-- event goes on with the last call.
abbrev pub IsPlayed : Programs → Seen → Position → Act → Type 0
IsPlayed g v after (act.Call p) = Begins g v.position v.told p after
IsPlayed g v after act.Gone = after ≡ v.position
IsPlayed g v after act.Pick = after ≡ v.position

-- The point's event may be made, has the point's outcome, is the program's, and leaves a state whose lines the new board shows.
pub record Decided (g : Programs) (b : Board) (k : KernelState) (p : Point) (b' : Board) : Type 0 where
  pub new : KernelState
  pub step : step k (entry_with (lasts b) p).event ≡ Ok (new, p.outcome)
  pub plays : IsPlayed g (b.seen p.who.number) (b'.seen p.who.number).position p.act
  pub lines : Tells new (shown b')

-- what each location has to show of a turn: its point is decided, or the new board shows the same lines
abbrev pub Goes : Programs → Board → KernelState → Option Point → Board → Type 0
Goes g b k None b' = Tells k (shown b')
Goes g b k (Some p) b' = Decided g b k p b'

-- The history grows by nothing, or by the point's entry.
abbrev pub Grows : Programs → Board → KernelState → Option Point → KernelState → Board → Type 0
Grows g b k None new b' = new ≡ k
Grows g b k (Some p) new b' = (step k (entry_with (lasts b) p).event ≡ Ok (new, p.outcome)) ×
    IsPlayed g (b.seen p.who.number) (b'.seen p.who.number).position p.act

-- A turn with this point: the new board shows a state again, which is the same or the one that the point's event leaves.
pub record Moves (g : Programs) (b : Board) (k : KernelState) (p : Option Point) (b' : Board) : Type 0 where
  pub new : KernelState
  pub shown : IsShown b' new
  pub history : Grows g b k p new b'

-- THE LISTS

-- Who waits to send to a number, by the board: the entries of its queue whose senders still wait for its thread, in their order.
abbrev pub waiting_shown : Board → ℕ → List Waiting
waiting_shown b n =
    map waiting_of (filter (λ e. waits_for (id_at b n) e (b.seen (number_of e)).word) (b.queue n))

-- What the points of context i read of the state's lists. It isn't proved here: k_legal proves it. Where the section of a
-- receive or of a pick has its caller's lock, and the caller is there, the caller's list is the queue's entries that still wait:
-- nobody is about to put in another.
pub record Lists (b : Board) (k : KernelState) (i : ℕ) : Type 0 where
  pub own : (c : ReceiveCall) (p : ReceiveAt) → (b.context i).at ≡ InReceive c p → b.owner i ≡ Some i →
      is_dead (b.seen i).word ≡ false → (k.place i).waiting ≡ waiting_shown b i
