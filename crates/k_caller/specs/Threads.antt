-- A thread's context: it makes the calls of its program, one section each. All of it is seen but for one thing: the place in the
-- program is seen as the operations that are left.
use Rattle.std.specs.Prelude.{ℕ, ◌≤◌, ◌<◌, Bool, false, if◌then◌else◌, Option, None, List, IfSome}
use Rattle.k_ids.specs.declared.threads.ThreadId.{ThreadId}
use Rattle.k_ids.specs.declared.calls.Phase.{Phase}
use Rattle.k_ids.specs.declared.calls.Phase.TheVariants as phase
use Rattle.k_ids.specs.declared.calls.Reply.{Reply}
use Rattle.k_ids.specs.declared.state_word.StateWord.{StateWord}
use Rattle.k_ids.specs.StateWords.{IsPartner}
use Rattle.k_locks.specs.declared.locks.Lock.{Lock}
use Rattle.k_locks.specs.declared.points.Point.{Point}
use Rattle.k_locks.specs.declared.steps.Answer.{Answer}
use Rattle.k_locks.specs.declared.steps.Step.{Step}
use Rattle.k_locks.specs.Steps.{is_again, one_more}
use Rattle.k_script.specs.Script.{Script}
use Rattle.k_script.specs.Plays.{IsInRange, IsWithin, Position, next_of, start_of, went_on}
use Rattle.k_script.specs.declared.registers.Next.{Next}
use Rattle.k_script.specs.declared.registers.Next.TheVariants as next
use Rattle.k_ipc.specs.declared.send.Manner.TheVariants as manner
use Rattle.k_ipc.specs.SendTable as send
use Rattle.k_ipc.specs.ReceiveTable as receive
use Rattle.k_threads.specs.CreateTable as create
use Rattle.k_threads.specs.DestroyTable as destroy
use Rattle.k_threads.specs.Words.{created_word}
use Rattle.k_caller.specs.declared.ran.Ran.{Ran}
use Rattle.k_caller.specs.declared.ran.Ran.TheVariants as ran
use Rattle.k_caller.specs.declared.thread.ThreadLocation.TheVariants as location
use Rattle.k_caller.specs.declared.activity.Activity.{Activity}
use Rattle.k_caller.specs.declared.activity.Activity.TheVariants as activity
use Rattle.k_caller.specs.Activities as about
use Rattle.k_caller.specs.Activities.{IsFitAt, IsSoundAt, TellsAt, TellsIn, activity_after, asked_activity, is_of_call, own_after, points_at, ran_at, step_at}

-- What a thread's context is. `own` is the thread's state word as the context knows it, where no section has its own.
pub record ThreadSeen : Type 0 where
  pub id : ThreadId
  pub position : Position  -- in its program, whose last reply isn't taken in yet
  pub own : StateWord
  pub serial : ℕ  -- of its last call, 0 before the first
  pub done : ℕ  -- the steps that were made for this call
  pub activity : Activity

-- a new thread, whose word is the one that its create commits: it runs, and is on
abbrev pub thread_of : Script → ThreadId → ℕ → ℕ → ThreadSeen
thread_of script id program priority = record {
  id = id;
  position = start_of script program id;
  own = created_word id.version priority;
  serial = 0;
  done = 0;
  activity = activity.Alone (location.Between None);
}

-- THE NEXT CALL begins when the context is asked for a step

-- what a call is made by, in a table of this size
abbrev pub begun_by : ℕ → ThreadId → StateWord → Phase → Activity
begun_by table me own (phase.Send to message zero joined) = activity.Send (send.send_of (record { caller = me; to = to; message = message; zero = zero; manner = send.manner_of joined }) own)
begun_by table me own (phase.Reply to message zero) = activity.Send (send.send_of (record { caller = me; to = to; message = message; zero = zero; manner = manner.Reply }) own)
begun_by table me own (phase.Receive from zero) = activity.Receive (receive.receive_of (record { caller = me; from = from; zero = zero; picks = false }) own)
begun_by table me own (phase.Create program priority) = activity.Create (create.create_of (record { caller = me; program = program; priority = priority }) own)
begun_by table me own (phase.Destroy who) = activity.Destroy (destroy.destroy_of (record { caller = me; who = who; count = table }) own)
begun_by table me own phase.End = activity.Alone location.CommitEnd

-- A call takes the thread's next serial. Work is no call.
abbrev pub begun_next : ℕ → ThreadSeen → Next → ThreadSeen
begun_next table t (next.Phase f) = record t { serial = one_more t.serial; done = 0; activity = begun_by table t.id t.own f }
begun_next table t (next.Work count) = record t { activity = activity.Alone (location.Work count) }

-- the thread with what comes next in its program, given the reply to its last call
abbrev pub begun_after : Script → ThreadSeen → Option Reply → ThreadSeen
begun_after script t last = begun_next script.table (record t { position = went_on t.position last }) (next_of script.version t.position last)

abbrev pub begun_at : Script → ThreadSeen → Activity → ThreadSeen
begun_at script t (activity.Alone (location.Between last)) = begun_after script t last
begun_at script t a = t

-- Between two calls the next one begins; else the thread is as it was.
abbrev pub begun : Script → ThreadSeen → ThreadSeen
begun script t = begun_at script t t.activity

-- a call names threads of the table, and a priority
abbrev pub NamesIn : ℕ → Phase → Type 0
NamesIn table (phase.Send to message zero joined) = IsInRange table to
NamesIn table (phase.Receive from zero) = IfSome from (IsInRange table)
NamesIn table (phase.Create program priority) = priority ≤ 63
NamesIn table (phase.Destroy victim) = IsInRange table victim
NamesIn table (phase.Reply to message zero) = IsInRange table to
NamesIn table phase.End = Unit {0}

-- ITS STEP

abbrev pub step_of : ThreadSeen → Step
step_of t = step_at t.id t.own t.activity

-- what is left once it is asked for its step
abbrev pub asked : ThreadSeen → ThreadSeen
asked t = record t { activity = asked_activity t.activity }

-- The thread after an answer. Where a lock is owned, or a context can't be removed yet, the same step comes again, and nothing
-- has changed. Else a step of a call is counted.
abbrev pub moved : ThreadSeen → Answer → ThreadSeen
moved t a = record t {
  own = own_after t.id t.own t.activity a;
  done = if is_of_call t.activity then one_more t.done else t.done;
  activity = activity_after t.id t.own t.activity a;
}

abbrev pub resumed : ThreadSeen → Answer → ThreadSeen
resumed t a = if is_again a then t else moved t a

-- what is told of the step
abbrev pub ran_of : ThreadSeen → Answer → Ran
ran_of t a = if is_again a then ran.Again else ran_at t.serial t.id t.own t.activity a

-- the event that the step makes, if any; `caller` is the thread's state word at this very step
abbrev pub points_of : ThreadSeen → StateWord → Answer → Option Point
points_of t caller a = points_at t.id t.own t.activity caller a

-- SLEEP

abbrev pub is_asleep : ThreadSeen → Bool
is_asleep t = about.is_asleep t.activity

abbrev pub is_dead : ThreadSeen → Bool
is_dead t = about.is_dead t.activity

-- One that is asleep looks at its word again; any other is as it was.
abbrev pub woken : ThreadSeen → ThreadSeen
woken t = if is_asleep t then record t { activity = activity.Alone location.LookAgain } else t

-- LOCKS, AND STEPS LEFT

abbrev pub locks_of : ThreadSeen → List (Option Lock)
locks_of t = about.locks_of t.activity

abbrev pub left_of : ThreadSeen → Lock → ℕ
left_of t k = about.left_of t.activity k

-- CONDITIONS

-- its step can be asked for, once its next call has begun
abbrev pub can_ask : ThreadSeen → Bool
can_ask t = about.can_ask t.activity

-- it was asked for its step, so that an answer may come
abbrev pub is_open : ThreadSeen → Bool
is_open t = about.is_open t.activity

-- what its release puts back has room for what is pushed
abbrev pub CanPush : ThreadSeen → Type 0
CanPush t = about.CanPush t.activity

pub record IsSound (script : Script) (t : ThreadSeen) : Type 0 where
  pub id : IsPartner t.id
  pub inside : t.id.number < script.table
  pub within : IsWithin script t.position
  pub doing : IsSoundAt t.id t.own t.activity
  pub tells : TellsAt script.table t.activity

-- what can be told of its step; and the reply that ends a call names threads of the table
pub record IsFit (script : Script) (t : ThreadSeen) (a : Answer) : Type 0 where
  pub told : IsFitAt t.id t.own t.activity a
  pub tells : TellsIn script.table (ran_of t a)
