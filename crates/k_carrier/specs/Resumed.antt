-- What an answer makes of a carrier.
use Rattle.std.specs.Prelude.{ℕ, ◌==◌, nat_lt, Bool, true, false, not, ◌&&◌, ◌||◌, if◌then◌else◌, Option, Some, None, is_some}
use Rattle.k_ids.specs.declared.context_word.ContextWord.{ContextWord}
use Rattle.k_ids.specs.declared.context_word.ContextWord.TheVariants as word
use Rattle.k_ids.specs.declared.state_word.StateWord.{StateWord}
use Rattle.k_ids.specs.ContextWords.{context_word_of}
use Rattle.k_locks.specs.declared.locks.Lock.{Lock}
use Rattle.k_locks.specs.declared.points.Point.{Point}
use Rattle.k_locks.specs.declared.steps.Answer.{Answer}
use Rattle.k_locks.specs.declared.steps.Answer.TheVariants as answer
use Rattle.k_locks.specs.declared.steps.Told.{Told}
use Rattle.k_locks.specs.declared.steps.Told.TheVariants as told
use Rattle.k_caller.specs.declared.ran.Ran.{Ran}
use Rattle.k_caller.specs.declared.ran.Ran.TheVariants as ran
use Rattle.k_switch.specs.declared.goal.Goal.{Goal}
use Rattle.k_switch.specs.declared.goal.Switched.{Switched}
use Rattle.k_switch.specs.declared.switch.SwitchCall.{SwitchCall}
use Rattle.k_context.specs.declared.owner.Owner.{Owner}
use Rattle.k_context.specs.Contexts.{ContextSeen, has_switch, is_dead, owner_of, points, ran_of, with_switch, woken}
use Rattle.k_context.specs.Contexts as contexts
use Rattle.k_carrier.specs.declared.moves.Awaits.{Awaits}
use Rattle.k_carrier.specs.declared.moves.Awaits.TheVariants as awaits
use Rattle.k_carrier.specs.declared.moves.Help.{Help}
use Rattle.k_carrier.specs.declared.carrier.Target.{Target}
use Rattle.k_carrier.specs.declared.carrier.Target.TheVariants.{GoalOf, Helped, Own}
use Rattle.k_carrier.specs.Answers.{AnswerSeen, Section, Looked, Took, TakeLost, Given}
use Rattle.k_carrier.specs.Asked.{version_in}
use Rattle.k_carrier.specs.Rules.{is_goals, own_context, target_of}
use Rattle.k_carrier.specs.Seen.{CarrierSeen, HandSeen}
use Rattle.k_carrier.specs.Starts.{first_start, without_start}

-- AFTER A STEP of the context in hand

-- Where a lock is owned, its owner is helped until it has released that lock; where a context can't be removed, it is helped
-- until it has released any. Where another carrier has it in hand, the step is asked for again.
abbrev pub help_after : Option Help → Option Lock → Option Told → Option Help
help_after p l (Some (told.Owned owner)) = Some (record { context = owner; lock = l })
help_after p l (Some (told.Holds context)) = Some (record { context = context; lock = None })
help_after p l t = p

-- what an answer tells, but for the goods that come with a lock
abbrev pub told_in : Answer → Option Told
told_in (answer.Got goods) = None
told_in (answer.Told t) = Some t

-- a higher priority than the goal's
abbrev pub is_above : ℕ → Option Goal → Bool
is_above priority None = false
is_above priority (Some g) = nat_lt g.priority priority

-- A thread with a higher priority than the goal's is ready: that is pending, unless the carrier switches anyway.
abbrev pub resched_after : CarrierSeen → Ran → Bool
resched_after c (ran.Pushed priority) = c.resched || (not c.switching && is_above priority c.goal)
resched_after c r = c.resched

-- The goal has fallen asleep, has ended, or was destroyed.
abbrev pub goal_after : Option Goal → Owner → Ran → Option Goal
goal_after goal o ran.Left = if is_goals goal o then None else goal
goal_after goal o ran.Dead = if is_goals goal o then None else goal
goal_after goal o r = goal

abbrev pub lock_awaited : Awaits → Option Lock
lock_awaited (awaits.Step l) = l
lock_awaited a = None

abbrev pub after_step : CarrierSeen → HandSeen → Answer → CarrierSeen
after_step c h a = record c {
  hand = Some (record h { value = contexts.resumed h.value a });
  help = help_after c.help (lock_awaited c.awaits) (told_in a);
  resched = resched_after c (ran_of h.value a);
  goal = goal_after c.goal (owner_of h.value) (ran_of h.value a);
  awaits = awaits.Nothing;
}

abbrev pub after_section : CarrierSeen → Option HandSeen → Answer → CarrierSeen
after_section c (Some h) a = after_step c h a
after_section c None a = c  -- it has no step without a hand

-- AFTER A LOOK, at a word of the target

-- the answer has come
abbrev pub heard : CarrierSeen → CarrierSeen
heard c = record c { awaits = awaits.Nothing }

abbrev pub is_holding : ContextWord → Bool
is_holding (word.Holds version) = true
is_holding w = false

-- A context that rests can be taken.
abbrev pub seen : CarrierSeen → ContextWord → ℕ → CarrierSeen
seen c (word.Clean version) bits = record c { looked = Some bits }
seen c (word.Holds version) bits = record c { looked = Some bits }
seen c (word.Taken carrier version) bits = c
seen c word.Empty bits = c

-- A context is helped only where it rests and holds a lock. A goal of which there is no context any more, or that of a later
-- thread of its number, isn't one.
abbrev pub after_look : CarrierSeen → Target → ContextWord → ℕ → CarrierSeen
after_look c (Helped context) w bits = if is_holding w then record c { looked = Some bits } else record c { help = None }
after_look c Own w bits = seen c w bits
after_look c (GoalOf g) w bits = if version_in w == g.id.version then seen c w bits else record c { goal = None }

-- AFTER A TAKE

abbrev pub in_hand : CarrierSeen → ℕ → ContextSeen → CarrierSeen
in_hand c context v = record c { hand = Some (record { context = context; value = v }); looked = None }

-- what its switch is given
abbrev pub switch_call : CarrierSeen → SwitchCall
switch_call c = record { goal = c.goal; counted = c.counted; slice_ended = c.slice; start = first_start c.starts }

-- A switch begins in its own context, and takes what was pending.
abbrev pub switch_begun : CarrierSeen → ContextSeen → CarrierSeen
switch_begun c v = record (in_hand c (own_context c) (with_switch (switch_call c) v)) {
  starts = without_start c.starts (first_start c.starts);
  slice = false;
  resched = false;
}

-- A switch that it has put down unfinished goes on.
abbrev pub own_taken : CarrierSeen → ContextSeen → CarrierSeen
own_taken c v = if has_switch v then in_hand c (own_context c) v else switch_begun c v

-- The goal is woken where it sleeps. Where a helper has run it to its death, there is no goal any more.
abbrev pub goal_taken : CarrierSeen → Goal → ContextSeen → CarrierSeen
goal_taken c g v = record (in_hand c g.id.number (woken v)) { goal = if is_dead v then None else c.goal }

abbrev pub after_take : CarrierSeen → Target → ContextSeen → CarrierSeen
after_take c (Helped context) v = in_hand c context v
after_take c Own v = own_taken c v
after_take c (GoalOf g) v = goal_taken c g v

-- AFTER A GIVE

abbrev pub is_given_released : Awaits → Bool
is_given_released (awaits.Give switched released) = released
is_given_released a = false

abbrev pub switched_given : Awaits → Option Switched
switched_given (awaits.Give switched released) = switched
switched_given a = None

-- The carrier was switched to this thread, or to none.
abbrev pub switched_to : CarrierSeen → Option Switched → CarrierSeen
switched_to c None = c
switched_to c (Some s) = record c { goal = s.goal; counted = is_some s.goal; switching = false }

-- Who was helped and has released the lock isn't helped any more.
abbrev pub after_give : CarrierSeen → Awaits → CarrierSeen
after_give c a = switched_to (record c { putting = false; help = if is_given_released a then None else c.help }) (switched_given a)

-- ANY ANSWER

abbrev pub resumed : CarrierSeen → AnswerSeen → CarrierSeen
resumed c (Section a) = after_section c c.hand a
resumed c (Looked bits) = after_look (heard c) (target_of c) (context_word_of bits) bits
resumed c (Took v) = after_take (heard c) (target_of c) v
resumed c (TakeLost bits) = record (heard c) { looked = None }
resumed c Given = after_give (heard c) c.awaits

-- THE LINEARIZATION POINT of its move, given the state word of the thread in its hand at this very step

abbrev pub points_in : Option HandSeen → StateWord → Answer → Option Point
points_in (Some h) caller a = points h.value caller a
points_in None caller a = None

abbrev pub point_of : CarrierSeen → StateWord → AnswerSeen → Option Point
point_of c caller (Section a) = points_in c.hand caller a
point_of c caller (Looked bits) = None
point_of c caller (Took v) = None
point_of c caller (TakeLost bits) = None
point_of c caller Given = None
