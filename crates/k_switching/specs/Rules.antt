-- The carrier: which contexts it takes, makes steps of, and gives back.
use Rattle.std.specs.Prelude.{ℕ, ◌==◌, Bool, true, false, not, ◌&&◌, ◌||◌, Option, Some, None, is_some, if◌then◌else◌}
use Rattle.k_ids.specs.declared.threads.ThreadId.{ThreadId}
use Rattle.k_ids.specs.declared.context_word.ContextWord.{ContextWord}
use Rattle.k_ids.specs.declared.context_word.ContextWord.TheVariants.{Empty, Clean, Holds, Taken}
use Rattle.k_model.specs.Maps.{upd, lowest}
use Rattle.k_tokens.specs.World.{ContextName, OfThread, OfCarrier, holds_any, Condition, Absent, Awake, Asleep, Ended, Dead}
use Rattle.k_tokens.specs.World.{is_absent, owner_of, NoSwitch, AcquireReady, OwnContext, has_switch, holds_ready, is_finished}
use Rattle.k_tokens.specs.World.{Help, Carrier, World, with_carrier, holds, names}
use Rattle.k_tokens.specs.Steps.{ThreadStep, after_step, without_goal, awakened}
use Rattle.k_switching.specs.Switch.{switch_step}

-- INTERRUPTS

abbrev pub wants_switch : Carrier → Bool
wants_switch carrier = (is_some (lowest carrier.starts 64) || carrier.slice) || carrier.resched

abbrev pub is_interrupted : Carrier → Bool
is_interrupted carrier = not carrier.switching && wants_switch carrier

-- WITH A CONTEXT IN HAND: whether it is given back. Each rule has a name.

abbrev pub same_context : ContextName → ContextName → Bool
same_context (OfThread t) (OfThread u) = t == u
same_context (OfThread t) (OfCarrier d) = false
same_context (OfCarrier c) (OfThread u) = false
same_context (OfCarrier c) (OfCarrier d) = c == d

abbrev pub is_helped : Option Help → ContextName → Bool
is_helped None context = false
is_helped (Some help) context = same_context help.context context

abbrev pub is_own : ℕ → ContextName → Bool
is_own c (OfThread t) = false
is_own c (OfCarrier d) = d == c

-- its own, with a finished switch
abbrev pub has_switched : World → ℕ → ContextName → Bool
has_switched w c (OfThread t) = false
has_switched w c (OfCarrier d) = (d == c) && is_finished (w.own d).stage

-- the helped one, and it doesn't hold the lock any more for which it is helped
abbrev pub is_released : World → Option Help → ContextName → Bool
is_released w None context = false
is_released w (Some help) context = same_context help.context context && not (holds w context help.lock)

-- another one is helped
abbrev pub is_in_the_way : Carrier → ContextName → Bool
is_in_the_way carrier context = is_some carrier.help && not (is_helped carrier.help context)

abbrev pub is_strange : World → Carrier → ContextName → Bool
is_strange w carrier (OfThread t) = not (names carrier.goal (owner_of w.threads t))
is_strange w carrier (OfCarrier d) = false

-- that of a thread which isn't the goal, and isn't helped
abbrev pub is_nobodys : World → Carrier → ContextName → Bool
is_nobodys w carrier context = is_strange w carrier context && not (is_helped carrier.help context)

-- it isn't its own, and the carrier is interrupted
abbrev pub is_stopped : ℕ → Carrier → ContextName → Bool
is_stopped c carrier context = is_interrupted carrier && not (is_own c context)

abbrev pub gives : World → ℕ → Carrier → ContextName → Bool
gives w c k context =
    k.putting || (has_switched w c context || (is_released w k.help context || (is_in_the_way k context
    || (is_nobodys w k context || is_stopped c k context))))

-- WITHOUT A CONTEXT IN HAND: whether it begins to switch, and which context it looks at or takes

abbrev pub begins : Carrier → Bool
begins carrier = is_interrupted carrier || (not carrier.switching && not (is_some carrier.goal))

abbrev pub switching_begun : Carrier → Carrier
switching_begun carrier = record carrier { switching = true; help = None; looked = None }

pub data Target : Type 0 where
  Helped : (context : ContextName) → Target
  ItsOwn : Target
  ItsGoals : (who : ThreadId) → Target

abbrev pub goal_target : Option ThreadId → Target
goal_target None = ItsOwn
goal_target (Some who) = ItsGoals who

abbrev pub target_by : Option Help → Bool → Option ThreadId → Target
target_by (Some help) switching goal = Helped help.context
target_by None switching goal = if switching then ItsOwn else goal_target goal

abbrev pub target_of : Carrier → Target
target_of carrier = target_by carrier.help carrier.switching carrier.goal

abbrev pub context_at : ℕ → Target → ContextName
context_at c (Helped context) = context
context_at c ItsOwn = OfCarrier c
context_at c (ItsGoals who) = OfThread who.number

-- the word of a context, by whose hand it is in, whether it holds a lock, and its version
abbrev pub slot_word : Option ℕ → Bool → ℕ → ContextWord
slot_word (Some c) locks version = Taken c version
slot_word None locks version = if locks then Holds version else Clean version

abbrev pub thread_word : Condition → Option ℕ → Bool → ℕ → ContextWord
thread_word condition hand locks version = if is_absent condition then Empty else slot_word hand locks version

abbrev pub word_of : World → ContextName → ContextWord
word_of w (OfThread t) = thread_word (w.threads.condition t) (w.held t) (holds_any (w.threads.locks t)) (w.threads.made t)
word_of w (OfCarrier d) = slot_word (w.held_own d) (holds_ready (w.own d).stage) 1

-- After a look: a clean, empty or taken context isn't helped any more. A goal that has no context, or one of another version, is
-- dropped.

abbrev pub without_help : Carrier → Carrier
without_help carrier = record carrier { help = None }

abbrev pub looking : Carrier → ContextWord → Carrier
looking carrier word = record carrier { looked = Some word }

abbrev pub looking_if : Bool → Carrier → ContextWord → Carrier
looking_if fits carrier word = if fits then looking carrier word else without_goal carrier

abbrev pub after_look : Carrier → Target → ContextWord → Carrier
after_look k (Helped context) Empty = without_help k
after_look k (Helped context) (Clean v) = without_help k
after_look k (Helped context) (Holds v) = looking k (Holds v)
after_look k (Helped context) (Taken c v) = without_help k
after_look k ItsOwn Empty = k
after_look k ItsOwn (Clean v) = looking k (Clean v)
after_look k ItsOwn (Holds v) = looking k (Holds v)
after_look k ItsOwn (Taken c v) = k
after_look k (ItsGoals who) Empty = without_goal k
after_look k (ItsGoals who) (Clean v) = looking_if (v == who.version) k (Clean v)
after_look k (ItsGoals who) (Holds v) = looking_if (v == who.version) k (Holds v)
after_look k (ItsGoals who) (Taken c v) = k

-- A take is a compare-exchange: it is won where the word is still the one that was looked at.

abbrev pub same_word : ContextWord → ContextWord → Bool
same_word Empty Empty = true
same_word Empty (Clean u) = false
same_word Empty (Holds u) = false
same_word Empty (Taken d u) = false
same_word (Clean v) Empty = false
same_word (Clean v) (Clean u) = v == u
same_word (Clean v) (Holds u) = false
same_word (Clean v) (Taken d u) = false
same_word (Holds v) Empty = false
same_word (Holds v) (Clean u) = false
same_word (Holds v) (Holds u) = v == u
same_word (Holds v) (Taken d u) = false
same_word (Taken c v) Empty = false
same_word (Taken c v) (Clean u) = false
same_word (Taken c v) (Holds u) = false
same_word (Taken c v) (Taken d u) = (c == d) && (v == u)

abbrev pub with_hand : Carrier → ContextName → Carrier
with_hand carrier context = record carrier { hand = Some context; looked = None }

abbrev pub taken_as_it_is : World → ℕ → ContextName → World
taken_as_it_is w c (OfThread t) = record w {
  held = upd w.held t (Some c);
  carrier = upd w.carrier c (with_hand (w.carrier c) (OfThread t));
}
taken_as_it_is w c (OfCarrier d) = record w {
  held_own = upd w.held_own d (Some c);
  carrier = upd w.carrier c (with_hand (w.carrier c) (OfCarrier d));
}

-- a sleeping one is woken
abbrev pub taken_asleep : World → ℕ → ℕ → World
taken_asleep w c t = record w {
  threads = awakened w.threads t;
  held = upd w.held t (Some c);
  carrier = upd w.carrier c (with_hand (w.carrier c) (OfThread t));
}

-- a goal whose context is dead is dropped
abbrev pub taken_dead : World → ℕ → ℕ → World
taken_dead w c t = record w {
  held = upd w.held t (Some c);
  carrier = upd w.carrier c (without_goal (with_hand (w.carrier c) (OfThread t)));
}

abbrev pub taken_goal : World → ℕ → ℕ → Condition → World
taken_goal w c t Asleep = taken_asleep w c t
taken_goal w c t Dead = taken_dead w c t
taken_goal w c t Absent = taken_as_it_is w c (OfThread t)
taken_goal w c t Awake = taken_as_it_is w c (OfThread t)
taken_goal w c t Ended = taken_as_it_is w c (OfThread t)

-- In its own context without a switch, one is begun: with the goal, its mark, whether a slice of time is over, and the lowest
-- number to be started.

abbrev pub without_start : (ℕ → Bool) → Option ℕ → ℕ → Bool
without_start starts None = starts
without_start starts (Some number) = upd starts number false

abbrev pub new_switch : Carrier → Option ℕ → OwnContext
new_switch carrier start = record {
  stage = AcquireReady;
  goal = carrier.goal;
  counted = carrier.counted;
  slice_ended = carrier.slice;
  start = start;
  goal_seen = None;
  start_seen = None;
  idle = false;
}

abbrev pub switching_with : Carrier → ℕ → Option ℕ → Carrier
switching_with carrier c start = record carrier {
  hand = Some (OfCarrier c);
  looked = None;
  slice = false;
  resched = false;
  starts = without_start carrier.starts start;
}

abbrev pub begun_with : World → ℕ → Option ℕ → World
begun_with w c start = record w {
  held_own = upd w.held_own c (Some c);
  own = upd w.own c (new_switch (w.carrier c) start);
  carrier = upd w.carrier c (switching_with (w.carrier c) c start);
}

abbrev pub taken_own : World → ℕ → Bool → World
taken_own w c true = taken_as_it_is w c (OfCarrier c)
taken_own w c false = begun_with w c (lowest (w.carrier c).starts 64)

abbrev pub taken : World → ℕ → Target → World
taken w c (Helped context) = taken_as_it_is w c context
taken w c ItsOwn = taken_own w c (has_switch (w.own c).stage)
taken w c (ItsGoals who) = taken_goal w c who.number (w.threads.condition who.number)

-- A GIVE: a context that is released isn't helped any more, and its own finished switch is taken out

abbrev pub help_after : World → Option Help → ContextName → Option Help
help_after w help context = if is_released w help context then None else help

abbrev pub put_down : World → Carrier → ContextName → Carrier
put_down w carrier context = record carrier { hand = None; putting = false; help = help_after w carrier.help context }

abbrev pub switched_to : Carrier → OwnContext → Carrier
switched_to carrier own = record carrier { goal = own.goal; counted = own.counted; switching = false }

abbrev pub given_own : World → ℕ → ℕ → Bool → World
given_own w c d false = record w {
  held_own = upd w.held_own d None;
  carrier = upd w.carrier c (put_down w (w.carrier c) (OfCarrier d));
}
given_own w c d true = record w {
  held_own = upd w.held_own d None;
  own = upd w.own d (record (w.own d) { stage = NoSwitch });
  carrier = upd w.carrier c (switched_to (put_down w (w.carrier c) (OfCarrier d)) (w.own d));
}

abbrev pub given : World → ℕ → ContextName → World
given w c (OfThread t) = record w {
  held = upd w.held t None;
  carrier = upd w.carrier c (put_down w (w.carrier c) (OfThread t));
}
given w c (OfCarrier d) = given_own w c d (has_switched w c (OfCarrier d))

-- ONE STEP OF A CARRIER. `step` is what the step of a thread's context does; where none is made, it isn't looked at.

abbrev pub context_step : World → ℕ → ContextName → ThreadStep → World
context_step w c (OfThread t) step = after_step w c t step
context_step w c (OfCarrier d) step = switch_step w c d (w.own d).stage

abbrev pub hand_step : World → ℕ → ContextName → ThreadStep → Bool → World
hand_step w c context step true = given w c context
hand_step w c context step false = context_step w c context step

abbrev pub take_step : World → ℕ → Target → Bool → World
take_step w c target true = taken w c target
take_step w c target false = with_carrier w c (record (w.carrier c) { looked = None })

abbrev pub target_step : World → ℕ → Target → Option ContextWord → World
target_step w c target None = with_carrier w c (after_look (w.carrier c) target (word_of w (context_at c target)))
target_step w c target (Some word) = take_step w c target (same_word word (word_of w (context_at c target)))

abbrev pub free_step : World → ℕ → World
free_step w c = target_step w c (target_of (w.carrier c)) (w.carrier c).looked

abbrev pub beginning : World → ℕ → Bool → World
beginning w c true = with_carrier w c (switching_begun (w.carrier c))
beginning w c false = w

abbrev pub carrier_step_by : World → ℕ → ThreadStep → Option ContextName → World
carrier_step_by w c step (Some context) = hand_step w c context step (gives w c (w.carrier c) context)
carrier_step_by w c step None = free_step (beginning w c (begins (w.carrier c))) c

abbrev pub carrier_step : World → ℕ → ThreadStep → World
carrier_step w c step = carrier_step_by w c step (w.carrier c).hand

-- WHAT COMES FROM OUTSIDE, at any moment

-- the start of the number's first thread comes to the carrier
abbrev pub started : World → ℕ → ℕ → World
started w c number = record w {
  unmade = upd w.unmade number false;
  carrier = upd w.carrier c (record (w.carrier c) { starts = upd (w.carrier c).starts number true });
}

abbrev pub sliced : World → ℕ → World
sliced w c = with_carrier w c (record (w.carrier c) { slice = true })

abbrev pub parked : World → ℕ → World
parked w c = with_carrier w c (record (w.carrier c) { putting = is_some (w.carrier c).hand })
