-- What a context shows on the board: where it stands, and what it has in hand there.
pub use Rattle.k_plays.specs.Scripts.{programs_of}
use Rattle.std.specs.Prelude.{◌≡◌, ℕ, ◌+◌, ◌==◌, if◌then◌else◌, Option, Some, None, List, slice_index_or}
use Rattle.k_ids.specs.declared.state_word.StateWord.{StateWord}
use Rattle.k_locks.specs.declared.locks.Lock.{Lock}
use Rattle.k_locks.specs.declared.locks.Lock.TheVariants as lock
use Rattle.k_locks.specs.declared.goods.Goods.{Goods}
use Rattle.k_locks.specs.Hands.{Hand, goods_for, nothing, trimmed}
use Rattle.k_locks.specs.Places.{lock_number}
use Rattle.k_script.specs.Script.{Script}
use Rattle.k_ipc.specs.SendTable as send
use Rattle.k_ipc.specs.ReceiveTable as receive
use Rattle.k_threads.specs.CreateTable as create
use Rattle.k_threads.specs.DestroyTable as destroy
use Rattle.k_caller.specs.declared.activity.Activity.{Activity}
use Rattle.k_caller.specs.declared.activity.Activity.TheVariants as activity
use Rattle.k_caller.specs.declared.thread.ThreadLocation.TheVariants as location
use Rattle.k_caller.specs.Activities.{section_own}
use Rattle.k_caller.specs.Threads.{ThreadSeen}
use Rattle.k_switch.specs.declared.switch.Switch.{Switch}
use Rattle.k_switch.specs.Switches as switch
use Rattle.k_context.specs.Contexts.{ContextSeen, Thread, Carrier}
use Rattle.k_board.specs.Boards.{At, Alone, InSend, InReceive, InCreate, InDestroy, InSwitch, Resting, Coming, Nowhere, Context, Board, hand_of}
use Rattle.k_good.specs.Locks.{locks_at}

-- WHERE IT STANDS

abbrev pub at_in : Activity → At
at_in (activity.Alone p) = Alone p
at_in (activity.Send s) = InSend s.call (send.at_of s.location)
at_in (activity.Receive s) = InReceive s.call (receive.at_of s.location)
at_in (activity.Create s) = InCreate s.call (create.at_of s.location)
at_in (activity.Destroy s) = InDestroy s.call (destroy.at_of s.location)

-- A thread whose number has another version yet is one that isn't made.
abbrev pub thread_at : StateWord → ThreadSeen → At
thread_at w t = if w.version == t.id.version then at_in t.activity else Coming

abbrev pub switch_at : Option Switch → At
switch_at None = Resting
switch_at (Some s) = InSwitch s.call (switch.at_of s.location)

-- what a thread's context is on the board, given the state word of its number
abbrev pub thread_shown : StateWord → ThreadSeen → Context
thread_shown w t = record {
  serial = t.serial;
  own = section_own t.own t.activity;
  position = t.position;
  at = thread_at w t;
}

-- of a thread that isn't made yet: its version is the next, and it has made no step
pub record IsComing (w : StateWord) (t : ThreadSeen) : Type 0 where
  pub version : t.id.version ≡ w.version + 1
  pub doing : t.activity ≡ activity.Alone (location.Between None)

-- A thread's context has its thread's number, and shows what the board has.
pub record IsShown (w : StateWord) (n : ℕ) (t : ThreadSeen) (x : Context) : Type 0 where
  pub number : t.id.number ≡ n
  pub coming : x.at ≡ Coming → IsComing w t
  pub context : x ≡ thread_shown w t

-- a context of this number, wherever it is, and what the board has of it
abbrev pub ShowsContext : StateWord → ℕ → Option ContextSeen → Context → Type 0
ShowsContext w number None x = x.at ≡ Nowhere
ShowsContext w number (Some (Thread t)) x = IsShown w number t x
ShowsContext w number (Some (Carrier k)) x = x.at ≡ switch_at k.switch

-- WHAT IT HAS IN HAND

abbrev pub hand_in : Activity → Hand
hand_in (activity.Alone p) = nothing
hand_in (activity.Send s) = send.hand_of s.location
hand_in (activity.Receive s) = receive.hand_of s.location
hand_in (activity.Create s) = create.hand_of s.location
hand_in (activity.Destroy s) = destroy.hand_of s.location

abbrev pub switch_hand : Option Switch → Hand
switch_hand None = nothing
switch_hand (Some s) = switch.hand_of s.location

abbrev pub hand_by : ContextSeen → Hand
hand_by (Thread t) = hand_in t.activity
hand_by (Carrier k) = switch_hand k.switch

-- the number whose queue is in hand, where the lock of the second rank is this
abbrev pub number_held : Option Lock → ℕ
number_held (Some (lock.Thread n)) = n
number_held (Some lock.Table) = 0
number_held (Some lock.Ready) = 0
number_held None = 0

abbrev pub queue_held : List (Option Lock) → ℕ
queue_held locks = number_held (slice_index_or locks 1 None)

-- what these locks guard
abbrev pub held_on : Board → List (Option Lock) → Hand
held_on b locks = trimmed locks (hand_of b (b.queue (queue_held locks)))

-- A context has in hand what the locks guard that its location holds, and nothing else.
abbrev pub HoldsGoods : Board → ContextSeen → At → Type 0
HoldsGoods b v p = hand_by v ≡ held_on b (locks_at p)

-- what a lock guards
abbrev pub goods_on : Board → Lock → Goods
goods_on b l = goods_for l (hand_of b (b.queue (lock_number l)))
