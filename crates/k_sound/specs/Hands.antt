-- What a section has in hand, as far as its soundness rests on it.
use Rattle.std.specs.Prelude.{◌≤◌, length}
use Rattle.k_senders.specs.Queue.{IsOnceEach}
use Rattle.k_locks.specs.Hands.{Hand}
use Rattle.k_ipc.specs.SendTable as send
use Rattle.k_ipc.specs.ReceiveTable as receive
use Rattle.k_threads.specs.CreateTable as create
use Rattle.k_threads.specs.DestroyTable as destroy
use Rattle.k_caller.specs.declared.activity.Activity.{Activity}
use Rattle.k_caller.specs.declared.activity.Activity.TheVariants as activity
use Rattle.k_context.specs.Contexts.{ContextSeen, Thread, Carrier}

-- No number has two entries in the queue, and the table has at most 64 numbers.
pub record IsProper (h : Hand) : Type 0 where
  pub once : IsOnceEach h.queue.entries
  pub few : length h.numbers.versions ≤ 64

-- so it is of what a thread has in hand, by what it is about
abbrev pub HasProper : Activity → Type 0
HasProper (activity.Alone p) = Unit {0}
HasProper (activity.Send s) = IsProper (send.hand_of s.location)
HasProper (activity.Receive s) = IsProper (receive.hand_of s.location)
HasProper (activity.Create s) = IsProper (create.hand_of s.location)
HasProper (activity.Destroy s) = IsProper (destroy.hand_of s.location)

-- A carrier's own context has the ready lists in hand alone.
abbrev pub HandProper : ContextSeen → Type 0
HandProper (Thread t) = HasProper t.activity
HandProper (Carrier k) = Unit {0}
