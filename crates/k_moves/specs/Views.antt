-- What of the raw world's carriers and contexts bears on who is on: the view of a carrier, and what a world shows of a context.
use Rattle.std.specs.Prelude.{◌≡◌, ℕ, ◌+◌, ◌<◌, Bool, true, if◌then◌else◌, Option, Some, None, is_some}
use Rattle.k_ids.specs.declared.threads.ThreadId.{ThreadId}
use Rattle.k_ids.specs.declared.context_word.ContextWord.{ContextWord}
use Rattle.k_ids.specs.ContextWords.{context_word_of}
use Rattle.k_caller.specs.declared.activity.Activity.{Activity}
use Rattle.k_caller.specs.declared.activity.Activity.TheVariants as activity
use Rattle.k_caller.specs.Activities as activities
use Rattle.k_caller.specs.Threads.{ThreadSeen}
use Rattle.k_switch.specs.declared.goal.Goal.{Goal}
use Rattle.k_switch.specs.declared.switch.Switch.{Switch}
use Rattle.k_switch.specs.declared.switch.SwitchCall.{SwitchCall}
use Rattle.k_switch.specs.declared.switch.SwitchLocked.{SwitchLocked}
use Rattle.k_switch.specs.declared.switch.SwitchLocked.TheVariants as locked
use Rattle.k_switch.specs.Switches.{SwitchAt, at_of, first_of_number}
use Rattle.k_switch.specs.Switches as switch
use Rattle.k_context.specs.Contexts.{ContextSeen, Thread, Carrier}
use Rattle.k_carrier.specs.declared.moves.Help.{Help}
use Rattle.k_carrier.specs.declared.carrier.Target.{Target}
use Rattle.k_carrier.specs.declared.carrier.Target.TheVariants as target
use Rattle.k_carrier.specs.Seen.{CarrierSeen, HandSeen}
use Rattle.k_carrier.specs.Starts.{is_due}
use Rattle.k_tokens.specs.World.{ContextName, Condition, Awake, OwnContext, Stage, Threads, World, is_open}
use Rattle.k_tokens.specs.World as tokens
use Rattle.k_switching.specs.Rules as rules
use Rattle.k_grants.specs.Views.{alone_condition, held_of, name_by, name_of}

-- A CARRIER

-- of a goal: the thread; its priority is a fact that the carrier carries
abbrev pub goal_in : Option Goal → Option ThreadId
goal_in None = None
goal_in (Some g) = Some g.id

-- the number of the context in hand
abbrev pub number_in : Option HandSeen → Option ℕ
number_in None = None
number_in (Some h) = Some h.context

abbrev pub help_in : ℕ → Option Help → Option tokens.Help
help_in size None = None
help_in size (Some p) = Some (record { context = name_of size p.context; lock = p.lock })

-- of the word that was looked at: what it says
abbrev pub word_in : Option ℕ → Option ContextWord
word_in None = None
word_in (Some bits) = Some (context_word_of bits)

abbrev pub carrier_view : CarrierSeen → tokens.Carrier
carrier_view k = record {
  goal = goal_in k.goal;
  counted = k.counted;
  hand = name_by k.table (number_in k.hand);
  help = help_in k.table k.help;
  switching = k.switching;
  looked = word_in k.looked;
  starts = is_due k.starts;
  slice = k.slice;
  resched = k.resched;
  putting = k.putting;
}

-- the context that it is to take
abbrev pub target_in : ℕ → Target → rules.Target
target_in size (target.Helped context) = rules.Helped (name_of size context)
target_in size target.Own = rules.ItsOwn
target_in size (target.GoalOf g) = rules.ItsGoals g.id

-- the world has what is viewed of it
abbrev pub IsViewed : World → CarrierSeen → Type 0
IsViewed w k = w.carrier k.number ≡ carrier_view k

-- A THREAD'S CONTEXT

abbrev pub condition_of : Activity → Condition
condition_of (activity.Alone p) = alone_condition p
condition_of (activity.Send s) = Awake
condition_of (activity.Receive s) = Awake
condition_of (activity.Create s) = Awake
condition_of (activity.Destroy s) = Awake

-- It has its thread's number, and the threads have its version, its condition and its locks.
pub record ShowsThread (threads : Threads) (size n : ℕ) (t : ThreadSeen) : Type 0 where
  pub number : t.id.number ≡ n
  pub inside : n < size
  pub made : threads.made n ≡ t.id.version
  pub condition : threads.condition n ≡ condition_of t.activity
  pub locks : threads.locks n ≡ held_of (activities.locks_of t.activity)

-- A CARRIER'S OWN CONTEXT

abbrev pub stage_of : SwitchAt → Stage
stage_of switch.AcquireReady = tokens.AcquireReady
stage_of (switch.Locked (locked.LoadGoal goal)) = tokens.LoadGoal
stage_of (switch.Locked (locked.LoadStart back number)) = tokens.LoadStart
stage_of (switch.Locked (locked.ReleaseReady back started)) = tokens.ReleaseReady
stage_of (switch.Returned s) = tokens.ReleaseReady
stage_of (switch.Finished s) = tokens.Finished

-- The thread with the priority that its word told. One whose word told none isn't put into a list.
abbrev pub told_goal : Option ThreadId → Option ℕ → Option Goal
told_goal None seen = None
told_goal (Some who) None = None
told_goal (Some who) (Some priority) = Some (record { id = who; priority = priority })

abbrev pub first_by : Option ℕ → Option ThreadId
first_by None = None
first_by (Some number) = Some (first_of_number number)

-- what the switch was given
pub record ShowsCall (c : SwitchCall) (own : OwnContext) : Type 0 where
  pub goal : own.goal ≡ goal_in c.goal
  pub counted : own.counted ≡ c.counted
  pub slice_ended : own.slice_ended ≡ c.slice_ended
  pub start : own.start ≡ c.start

-- what it knows at a location under the ready lock
abbrev pub ShowsLocked : OwnContext → SwitchLocked → Type 0
ShowsLocked own (locked.LoadGoal goal) = own.goal ≡ Some goal.id
ShowsLocked own (locked.LoadStart back number) = (back ≡ told_goal own.goal own.goal_seen) × (own.start ≡ Some number)
ShowsLocked own (locked.ReleaseReady back started) =
    (back ≡ told_goal own.goal own.goal_seen) × (started ≡ told_goal (first_by own.start) own.start_seen)

-- A finished switch has what it came to. The lists go home with the answer, so between two moves none has given them back
-- already.
abbrev pub ShowsAt : OwnContext → SwitchAt → Type 0
ShowsAt own switch.AcquireReady = Unit {0}
ShowsAt own (switch.Locked p) = ShowsLocked own p
ShowsAt own (switch.Returned s) = ⊥
ShowsAt own (switch.Finished s) = (own.goal ≡ goal_in s.goal) × (own.counted ≡ is_some s.goal) × (own.idle ≡ s.idle)

pub record ShowsSwitch (s : Switch) (own : OwnContext) : Type 0 where
  pub stage : own.stage ≡ stage_of (at_of s.location)
  pub call : is_open own.stage ≡ true → ShowsCall s.call own
  pub at : ShowsAt own (at_of s.location)

-- Without a switch, nothing else matters that is left of the one before.
abbrev pub ShowsOwn : Option Switch → OwnContext → Type 0
ShowsOwn None own = own.stage ≡ tokens.NoSwitch
ShowsOwn (Some s) own = ShowsSwitch s own

-- ANY CONTEXT, by its number

abbrev pub ShowsContext : World → (size n : ℕ) → ContextSeen → Type 0
ShowsContext w size n (Thread t) = ShowsThread w.threads size n t
ShowsContext w size n (Carrier k) = (n ≡ size + k.carrier) × ShowsOwn k.switch (w.own k.carrier)

-- the context in a carrier's hand
abbrev pub ShowsHand : World → CarrierSeen → Option HandSeen → Type 0
ShowsHand w k None = Unit {0}
ShowsHand w k (Some h) = ShowsContext w k.table h.context h.value

-- a carrier that has begun to switch, where it does
abbrev pub readied_by : Bool → tokens.Carrier → tokens.Carrier
readied_by begins carrier = if begins then rules.switching_begun carrier else carrier
