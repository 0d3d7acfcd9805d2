-- What a thread is about: a section, or one of its own locations outside of any. Each definition takes it apart once, and says
-- the rest in the words of that section, or of the thread's own locations. `own` is the thread's state word as the context knows
-- it, where no section has its own.
use Rattle.std.specs.Prelude.{ℕ, ◌≡◌, Bool, true, false, Option, Some, None, List, [], ◌∷◌}
use Rattle.k_ids.specs.declared.threads.ThreadId.{ThreadId}
use Rattle.k_ids.specs.declared.state_word.StateWord.{StateWord}
use Rattle.k_locks.specs.declared.locks.Lock.{Lock}
use Rattle.k_locks.specs.declared.points.Point.{Point}
use Rattle.k_locks.specs.declared.steps.Step.{Step}
use Rattle.k_locks.specs.declared.steps.Answer.{Answer}
use Rattle.k_locks.specs.declared.steps.Answer.TheVariants as answer
use Rattle.k_locks.specs.declared.steps.Went.{Went}
use Rattle.k_locks.specs.declared.steps.Went.TheVariants as went
use Rattle.k_locks.specs.Asks.{response_of, step_for}
use Rattle.k_locks.specs.Hands.{nothing}
use Rattle.k_script.specs.Plays.{TellsInRange}
use Rattle.k_ipc.specs.declared.send.SendSection.{SendSection}
use Rattle.k_ipc.specs.declared.receive.ReceiveSection.{ReceiveSection}
use Rattle.k_threads.specs.declared.create.CreateSection.{CreateSection}
use Rattle.k_threads.specs.declared.destroy.DestroySection.{DestroySection}
use Rattle.k_ipc.specs.SendTable as send
use Rattle.k_ipc.specs.ReceiveTable as receive
use Rattle.k_threads.specs.CreateTable as create
use Rattle.k_threads.specs.DestroyTable as destroy
use Rattle.k_caller.specs.declared.ran.Ran.{Ran}
use Rattle.k_caller.specs.declared.ran.Ran.TheVariants as ran
use Rattle.k_caller.specs.declared.thread.ThreadLocation.TheVariants as location
use Rattle.k_caller.specs.declared.activity.Activity.{Activity}
use Rattle.k_caller.specs.declared.activity.Activity.TheVariants as activity
use Rattle.k_caller.specs.Waits as alone
use Rattle.k_caller.specs.Owns.{ReceiveOwns, SendOwns}

-- THE STEP

abbrev pub step_at : ThreadId → StateWord → Activity → Step
step_at me own (activity.Alone p) = step_for (alone.ask_of me own p) nothing
step_at me own (activity.Send s) = send.step_of s
step_at me own (activity.Receive s) = receive.step_of s
step_at me own (activity.Create s) = create.step_of s
step_at me own (activity.Destroy s) = destroy.step_of s

-- what is left once it is asked for its step
abbrev pub asked_activity : Activity → Activity
asked_activity (activity.Alone p) = activity.Alone p
asked_activity (activity.Send s) = activity.Send (send.asked s)
asked_activity (activity.Receive s) = activity.Receive (receive.asked s)
asked_activity (activity.Create s) = activity.Create (create.asked s)
asked_activity (activity.Destroy s) = activity.Destroy (destroy.asked s)

-- WHERE AN ANSWER LEADS

-- Where its section goes on, the thread stays in it; else it waits, is between two calls, was destroyed, or picks.
abbrev pub after_went : ThreadId → StateWord → Activity → Went → Activity
after_went me own a went.On = a
after_went me own a went.Again = a
after_went me own a (went.Pushed priority) = a
after_went me own a went.Waits = activity.Alone location.FallAsleep
after_went me own a (went.Ends r) = activity.Alone (location.Between (Some r))
after_went me own a went.CallerDead = activity.Alone location.Dead
after_went me own a went.Picks = activity.Receive (receive.receive_of (record { caller = me; from = None; zero = false; picks = true }) own)

abbrev pub ran_after : ℕ → Went → Ran
ran_after serial went.On = ran.On
ran_after serial went.Again = ran.Again
ran_after serial (went.Pushed priority) = ran.Pushed priority
ran_after serial went.Waits = ran.On
ran_after serial (went.Ends r) = ran.Replied serial r
ran_after serial went.CallerDead = ran.Dead
ran_after serial went.Picks = ran.On

-- How a section goes on, what it is then, and its caller's word.
abbrev pub section_went : Activity → Answer → Went
section_went (activity.Alone p) a = went.On
section_went (activity.Send s) a = send.went_of s.call (send.hand_of s.location) (send.at_of s.location) (send.heard s a)
section_went (activity.Receive s) a = receive.went_of s.call (receive.hand_of s.location) (receive.at_of s.location) (receive.heard s a)
section_went (activity.Create s) a = create.went_of s.call (create.hand_of s.location) (create.at_of s.location) (create.heard s a)
section_went (activity.Destroy s) a = destroy.went_of s.call (destroy.hand_of s.location) (destroy.at_of s.location) (destroy.heard s a)

abbrev pub section_resumed : Activity → Answer → Activity
section_resumed (activity.Alone p) a = activity.Alone p
section_resumed (activity.Send s) a = activity.Send (send.resumed s a)
section_resumed (activity.Receive s) a = activity.Receive (receive.resumed s a)
section_resumed (activity.Create s) a = activity.Create (create.resumed s a)
section_resumed (activity.Destroy s) a = activity.Destroy (destroy.resumed s a)

abbrev pub section_own : StateWord → Activity → StateWord
section_own own (activity.Alone p) = own
section_own own (activity.Send s) = s.own
section_own own (activity.Receive s) = s.own
section_own own (activity.Create s) = s.own
section_own own (activity.Destroy s) = s.own

-- what the thread is about after a step, and its own word
abbrev pub own_after : ThreadId → StateWord → Activity → Answer → StateWord
own_after me own (activity.Alone p) a = alone.own_of own p (response_of a (alone.ask_of me own p))
own_after me own s a = section_own own (section_resumed s a)

abbrev pub activity_after : ThreadId → StateWord → Activity → Answer → Activity
activity_after me own (activity.Alone p) a = activity.Alone (alone.leads p (response_of a (alone.ask_of me own p)))
activity_after me own s a = after_went me (section_own own (section_resumed s a)) (section_resumed s a) (section_went s a)

-- whether the step belongs to the call: work belongs to none
abbrev pub is_of_call : Activity → Bool
is_of_call (activity.Alone p) = alone.is_of_call p
is_of_call s = true

abbrev pub ran_at : ℕ → ThreadId → StateWord → Activity → Answer → Ran
ran_at serial me own (activity.Alone p) a = alone.ran_of serial p (response_of a (alone.ask_of me own p))
ran_at serial me own s a = ran_after serial (section_went s a)

-- THE LINEARIZATION POINT

abbrev pub points_at : ThreadId → StateWord → Activity → StateWord → Answer → Option Point
points_at me own (activity.Alone p) caller a = alone.points me p (response_of a (alone.ask_of me own p))
points_at me own (activity.Send s) caller a = send.points s.call caller (send.hand_of s.location) (send.at_of s.location) (send.heard s a)
points_at me own (activity.Receive s) caller a = receive.points s.call caller (receive.hand_of s.location) (receive.at_of s.location) (receive.heard s a)
points_at me own (activity.Create s) caller a = create.points s.call caller (create.hand_of s.location) (create.at_of s.location) (create.heard s a)
points_at me own (activity.Destroy s) caller a = destroy.points s.call caller (destroy.hand_of s.location) (destroy.at_of s.location) (destroy.heard s a)

-- LOCKS, AND STEPS LEFT

abbrev pub no_lock : List (Option Lock)
no_lock = None ∷ None ∷ None ∷ []

-- the locks that are held, by rank
abbrev pub locks_of : Activity → List (Option Lock)
locks_of (activity.Alone p) = no_lock
locks_of (activity.Send s) = send.locks_of s.call (send.at_of s.location)
locks_of (activity.Receive s) = receive.locks_of s.call (receive.at_of s.location)
locks_of (activity.Create s) = create.locks_of s.call (create.at_of s.location)
locks_of (activity.Destroy s) = destroy.locks_of s.call (destroy.at_of s.location)

-- how many steps are left until a lock that is held is released
abbrev pub left_of : Activity → Lock → ℕ
left_of (activity.Alone p) k = 0
left_of (activity.Send s) k = send.left_of s.call (send.hand_of s.location) (send.at_of s.location) k
left_of (activity.Receive s) k = receive.left_of s.call (receive.hand_of s.location) (receive.at_of s.location) k
left_of (activity.Create s) k = create.left_of s.call (create.hand_of s.location) (create.at_of s.location) k
left_of (activity.Destroy s) k = destroy.left_of s.call (destroy.hand_of s.location) (destroy.at_of s.location) k

-- SLEEP

abbrev pub is_asleep : Activity → Bool
is_asleep (activity.Alone location.Asleep) = true
is_asleep a = false

abbrev pub is_dead : Activity → Bool
is_dead (activity.Alone location.Dead) = true
is_dead a = false

-- CONDITIONS

-- its step can be asked for, once its next call has begun
abbrev pub can_ask : Activity → Bool
can_ask (activity.Alone p) = alone.can_ask p
can_ask (activity.Send s) = send.can_ask s.location
can_ask (activity.Receive s) = receive.can_ask s.location
can_ask (activity.Create s) = create.can_ask s.location
can_ask (activity.Destroy s) = destroy.can_ask s.location

-- it has a next step, or its thread a next call
abbrev pub has_next : Activity → Bool
has_next (activity.Alone (location.Between last)) = true
has_next a = can_ask a

-- so it is told
abbrev pub goes_on : Ran → Bool
goes_on ran.Left = false
goes_on ran.Dead = false
goes_on r = true

-- it isn't over, so that an answer may come
abbrev pub is_open : Activity → Bool
is_open (activity.Alone p) = alone.can_ask p
is_open (activity.Send s) = send.is_open (send.at_of s.location)
is_open (activity.Receive s) = receive.is_open (receive.at_of s.location)
is_open (activity.Create s) = create.is_open (create.at_of s.location)
is_open (activity.Destroy s) = destroy.is_open (destroy.at_of s.location)

-- what a release puts back has room for what is pushed
abbrev pub CanPush : Activity → Type 0
CanPush (activity.Alone p) = Unit {0}
CanPush (activity.Send s) = send.CanPush s.call (send.hand_of s.location) (send.at_of s.location)
CanPush (activity.Receive s) = receive.CanPush s.call (receive.hand_of s.location) (receive.at_of s.location)
CanPush (activity.Create s) = create.CanPush s.call (create.hand_of s.location) (create.at_of s.location)
CanPush (activity.Destroy s) = destroy.CanPush s.call (destroy.hand_of s.location) (destroy.at_of s.location)

-- what can be told of the step
abbrev pub IsFitAt : ThreadId → StateWord → Activity → Answer → Type 0
IsFitAt me own (activity.Alone p) (answer.Told t) = alone.IsAnswer me own p t
IsFitAt me own (activity.Alone p) (answer.Got g) = ⊥
IsFitAt me own (activity.Send s) a = send.IsFit (send.at_of s.location) a
IsFitAt me own (activity.Receive s) a = receive.IsFit (receive.at_of s.location) a
IsFitAt me own (activity.Create s) a = create.IsFit (create.at_of s.location) a
IsFitAt me own (activity.Destroy s) a = destroy.IsFit (destroy.at_of s.location) a

pub record IsSoundSend (me : ThreadId) (s : SendSection) : Type 0 where
  pub sound : send.IsSound s
  pub caller : s.call.caller ≡ me
  pub own : SendOwns s.call s.own (send.at_of s.location)

pub record IsSoundReceive (me : ThreadId) (s : ReceiveSection) : Type 0 where
  pub sound : receive.IsSound s
  pub caller : s.call.caller ≡ me
  pub own : ReceiveOwns s.call s.own (receive.at_of s.location)

pub record IsSoundCreate (me : ThreadId) (s : CreateSection) : Type 0 where
  pub sound : create.IsSound s
  pub caller : s.call.caller ≡ me

pub record IsSoundDestroy (me : ThreadId) (s : DestroySection) : Type 0 where
  pub sound : destroy.IsSound s
  pub caller : s.call.caller ≡ me

abbrev pub IsSoundAt : ThreadId → StateWord → Activity → Type 0
IsSoundAt me own (activity.Alone p) = alone.IsSoundAt me own p
IsSoundAt me own (activity.Send s) = IsSoundSend me s
IsSoundAt me own (activity.Receive s) = IsSoundReceive me s
IsSoundAt me own (activity.Create s) = IsSoundCreate me s
IsSoundAt me own (activity.Destroy s) = IsSoundDestroy me s

-- the reply to the last call names threads of a table of this size
abbrev pub TellsAt : ℕ → Activity → Type 0
TellsAt table (activity.Alone (location.Between last)) = TellsInRange table last
TellsAt table a = Unit {0}

-- and so does the reply that is told
abbrev pub TellsIn : ℕ → Ran → Type 0
TellsIn table (ran.Replied serial r) = TellsInRange table (Some r)
TellsIn table r = Unit {0}
