-- A context: what a thread does, or what a carrier does to switch. Each definition takes it apart once, and says the rest in the
-- words of the thread's context, or of the carrier's.
use Rattle.std.specs.Prelude.{ℕ, Bool, true, false, if◌then◌else◌, Option, None, is_none, List}
use Rattle.k_ids.specs.declared.threads.ThreadId.{ThreadId}
use Rattle.k_ids.specs.declared.state_word.StateWord.{StateWord}
use Rattle.k_locks.specs.declared.locks.Lock.{Lock}
use Rattle.k_locks.specs.declared.points.Point.{Point}
use Rattle.k_locks.specs.declared.steps.Step.{Step}
use Rattle.k_locks.specs.declared.steps.Answer.{Answer}
use Rattle.k_script.specs.Script.{Script}
use Rattle.k_caller.specs.declared.ran.Ran.{Ran}
use Rattle.k_caller.specs.declared.ran.Ran.TheVariants as ran
use Rattle.k_caller.specs.Activities as about
use Rattle.k_caller.specs.Seen as placed
use Rattle.k_caller.specs.Threads.{ThreadSeen}
use Rattle.k_caller.specs.Threads as threads
use Rattle.k_locks.specs.Steps.{is_again}
use Rattle.k_switch.specs.declared.goal.Switched.{Switched}
use Rattle.k_switch.specs.declared.switch.SwitchCall.{SwitchCall}
use Rattle.k_switch.specs.declared.carrier_context.CarrierContext.{CarrierContext}
use Rattle.k_switch.specs.Carriers as carriers
use Rattle.k_context.specs.declared.owner.Owner.{Owner}
use Rattle.k_context.specs.declared.owner.Owner.TheVariants as owner
use Rattle.k_context.specs.declared.context.Context.{Context}
use Rattle.k_context.specs.declared.context.Context.TheVariants as context

-- WHAT IS SEEN OF IT

pub data ContextSeen : Type 0 where
  Thread : ThreadSeen → ContextSeen
  Carrier : CarrierContext → ContextSeen

abbrev pub seen_in : Script → Context → ContextSeen
seen_in script (context.Thread t) = Thread (placed.thread_in script t)
seen_in script (context.Carrier k) = Carrier k

-- a thread's place is one of this script
abbrev pub IsPlaced : Script → Context → Type 0
IsPlaced script (context.Thread t) = placed.IsPlaced script t
IsPlaced script (context.Carrier k) = Unit {0}

-- A NEW ONE

abbrev pub thread_of : Script → ThreadId → ℕ → ℕ → ContextSeen
thread_of script id program priority = Thread (threads.thread_of script id program priority)

abbrev pub carrier_of : ℕ → ContextSeen
carrier_of number = Carrier (carriers.carrier_of number)

-- WHOSE IT IS

abbrev pub owner_of : ContextSeen → Owner
owner_of (Thread t) = owner.Thread t.id
owner_of (Carrier k) = owner.Carrier k.carrier

abbrev pub is_threads : ContextSeen → Bool
is_threads (Thread t) = true
is_threads (Carrier k) = false

-- of its last call, or its last switch; 0 before the first
abbrev pub serial_of : ContextSeen → ℕ
serial_of (Thread t) = t.serial
serial_of (Carrier k) = k.serial

-- the steps that were made for this call, or for this switch
abbrev pub done_of : ContextSeen → ℕ
done_of (Thread t) = t.done
done_of (Carrier k) = k.done

-- THE STEP

-- Between two calls a thread's next one begins. A carrier's context is as it was.
abbrev pub begun : Script → ContextSeen → ContextSeen
begun script (Thread t) = Thread (threads.begun script t)
begun script (Carrier k) = Carrier k

abbrev pub step_of : ContextSeen → Step
step_of (Thread t) = threads.step_of t
step_of (Carrier k) = carriers.step_of k

-- what is left once it is asked for its step
abbrev pub asked : ContextSeen → ContextSeen
asked (Thread t) = Thread (threads.asked t)
asked (Carrier k) = Carrier (carriers.asked k)

-- WHERE AN ANSWER LEADS

abbrev pub resumed : ContextSeen → Answer → ContextSeen
resumed (Thread t) a = Thread (threads.resumed t a)
resumed (Carrier k) a = Carrier (carriers.resumed k a)

-- A switch has a next step, or asks for the same one again; what it has come to is told once it is over.
abbrev pub ran_of : ContextSeen → Answer → Ran
ran_of (Thread t) a = threads.ran_of t a
ran_of (Carrier k) a = if is_again a then ran.Again else ran.On

-- the event that its step makes, given the thread's state word at this very step
abbrev pub points : ContextSeen → StateWord → Answer → Option Point
points (Thread t) caller a = threads.points_of t caller a
points (Carrier k) caller a = None

-- LOCKS, AND STEPS LEFT

-- the locks that are held, by rank
abbrev pub locks_of : ContextSeen → List (Option Lock)
locks_of (Thread t) = threads.locks_of t
locks_of (Carrier k) = carriers.locks_of k

-- how many steps are left until a lock that is held is released, that release included
abbrev pub left_of : ContextSeen → Lock → ℕ
left_of (Thread t) l = threads.left_of t l
left_of (Carrier k) l = carriers.left_of k l

-- SLEEP AND DEATH

-- it waits, and isn't on
abbrev pub is_asleep : ContextSeen → Bool
is_asleep (Thread t) = threads.is_asleep t
is_asleep (Carrier k) = false

-- its thread was destroyed
abbrev pub is_dead : ContextSeen → Bool
is_dead (Thread t) = threads.is_dead t
is_dead (Carrier k) = false

-- A context that is asleep looks again. Any other is as it was.
abbrev pub woken : ContextSeen → ContextSeen
woken (Thread t) = Thread (threads.woken t)
woken (Carrier k) = Carrier k

-- SWITCHES, in a carrier's context alone

-- finished or not
abbrev pub has_switch : ContextSeen → Bool
has_switch (Thread t) = false
has_switch (Carrier k) = carriers.has_switch k

-- what a finished switch has come to
abbrev pub switched_of : ContextSeen → Option Switched
switched_of (Thread t) = None
switched_of (Carrier k) = carriers.switched_of k

abbrev pub with_switch : SwitchCall → ContextSeen → ContextSeen
with_switch c (Thread t) = Thread t
with_switch c (Carrier k) = Carrier (carriers.with_switch c k)

abbrev pub without_switch : ContextSeen → ContextSeen
without_switch (Thread t) = Thread t
without_switch (Carrier k) = Carrier (carriers.without_switch k)

-- CONDITIONS

-- its step can be asked for
abbrev pub can_ask : ContextSeen → Bool
can_ask (Thread t) = threads.can_ask t
can_ask (Carrier k) = carriers.can_ask k

-- its step was asked for, so that an answer may come
abbrev pub is_open : ContextSeen → Bool
is_open (Thread t) = threads.is_open t
is_open (Carrier k) = carriers.is_open k

-- Its step can be asked for after what came of the last one: a thread's unless it has left or is dead, a carrier's unless its switch
-- is over.
abbrev pub goes_on : ContextSeen → Ran → Bool
goes_on (Thread t) r = about.goes_on r
goes_on (Carrier k) r = is_none (carriers.switched_of k)

-- what a release puts back has room for what is pushed
abbrev pub CanPush : ContextSeen → Type 0
CanPush (Thread t) = threads.CanPush t
CanPush (Carrier k) = carriers.CanPush k

abbrev pub IsSound : Script → ContextSeen → Type 0
IsSound script (Thread t) = threads.IsSound script t
IsSound script (Carrier k) = carriers.IsSound k

-- what can be told of its step
abbrev pub IsFit : Script → ContextSeen → Answer → Type 0
IsFit script (Thread t) a = threads.IsFit script t a
IsFit script (Carrier k) a = carriers.IsFit k a
