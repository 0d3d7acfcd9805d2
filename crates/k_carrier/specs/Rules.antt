-- The rules of a carrier. It runs its goal, the thread to which it was switched. Where a step of it finds a lock owned, the
-- carrier puts its context down and runs the owner's until that lock is released (Hohmuth and Härtig, helping). Where something is
-- pending, as a start or the end of its slice of time, it puts down whatever it has in hand, and switches.
use Rattle.std.specs.Prelude.{ℕ, ◌+◌, ◌==◌, Bool, true, false, not, ◌&&◌, ◌||◌, if◌then◌else◌, Option, Some, None, is_some, is_none, List}
use Rattle.std.specs.List.{list_any}
use Rattle.k_model.specs.State.{same_id}
use Rattle.k_locks.specs.declared.locks.Lock.{Lock}
use Rattle.k_locks.specs.declared.locks.Lock.TheVariants as lock
use Rattle.k_switch.specs.declared.goal.Goal.{Goal}
use Rattle.k_switch.specs.declared.goal.Switched.{Switched}
use Rattle.k_context.specs.declared.owner.Owner.{Owner}
use Rattle.k_context.specs.declared.owner.Owner.TheVariants as owner
use Rattle.k_context.specs.Contexts.{ContextSeen, locks_of, owner_of, switched_of}
use Rattle.k_carrier.specs.declared.moves.Help.{Help}
use Rattle.k_carrier.specs.declared.carrier.Target.{Target}
use Rattle.k_carrier.specs.declared.carrier.Target.TheVariants.{GoalOf, Helped, Own}
use Rattle.k_carrier.specs.Seen.{CarrierSeen, HandSeen}
use Rattle.k_carrier.specs.Starts.{has_start}

-- WHAT IS PENDING

-- a thread is to be started, its slice of time has ended, or a thread of a higher priority is ready
abbrev pub is_pending : CarrierSeen → Bool
is_pending c = has_start c.starts || c.slice || c.resched

abbrev pub is_interrupted : CarrierSeen → Bool
is_interrupted c = not c.switching && is_pending c

-- THE HAND

-- the number of the carrier's own context, which makes its switches
abbrev pub own_context : CarrierSeen → ℕ
own_context c = c.table + c.number

abbrev pub is_own : CarrierSeen → HandSeen → Bool
is_own c h = h.context == own_context c

abbrev pub helps : Option Help → ℕ → Bool
helps None context = false
helps (Some p) context = p.context == context

abbrev pub is_helped : CarrierSeen → HandSeen → Bool
is_helped c h = helps c.help h.context

abbrev pub is_a_threads : Owner → Bool
is_a_threads (owner.Thread id) = true
is_a_threads (owner.Carrier number) = false

-- whether the context is that of the goal's thread
abbrev pub is_goals : Option Goal → Owner → Bool
is_goals (Some g) (owner.Thread id) = same_id g.id id
is_goals goal owner = false

abbrev pub same_lock : Lock → Lock → Bool
same_lock lock.Table lock.Table = true
same_lock (lock.Thread m) (lock.Thread n) = m == n
same_lock lock.Ready lock.Ready = true
same_lock l k = false

-- whether what is held is this lock
abbrev pub is_lock : Lock → Option Lock → Bool
is_lock l None = false
is_lock l (Some k) = same_lock l k

abbrev pub holds_any : List (Option Lock) → Bool
holds_any held = list_any is_some held

abbrev pub holds_lock : Lock → List (Option Lock) → Bool
holds_lock l held = list_any (is_lock l) held

-- whether this lock is held, or any where none is named
abbrev pub still_holds : Option Lock → List (Option Lock) → Bool
still_holds (Some l) held = holds_lock l held
still_holds None held = holds_any held

-- whether the context is the helped one, and doesn't hold what it is helped for any more
abbrev pub has_released : Option Help → HandSeen → Bool
has_released None h = false
has_released (Some p) h = (p.context == h.context) && not (still_holds p.lock (locks_of h.value))

-- what a finished switch has come to, in its own context
abbrev pub switched_in : Bool → ContextSeen → Option Switched
switched_in own v = if own then switched_of v else None

abbrev pub own_switched : CarrierSeen → HandSeen → Option Switched
own_switched c h = switched_in (is_own c h) h.value

-- WITH A HAND: the six rules by which it is put down

-- it was told to
abbrev pub is_put_down : CarrierSeen → Bool
is_put_down c = c.putting

-- its switch is finished
abbrev pub has_switched : CarrierSeen → HandSeen → Bool
has_switched c h = is_some (own_switched c h)

-- the helped context has released what it was helped for
abbrev pub is_released : CarrierSeen → HandSeen → Bool
is_released c h = has_released c.help h

-- another context has to be helped
abbrev pub is_in_the_way : CarrierSeen → HandSeen → Bool
is_in_the_way c h = is_some c.help && not (is_helped c h)

-- a thread's context that is neither helped nor the goal's
abbrev pub is_nobodys : CarrierSeen → HandSeen → Bool
is_nobodys c h = is_a_threads (owner_of h.value) && not (is_helped c h) && not (is_goals c.goal (owner_of h.value))

-- something is pending, and the hand isn't its own
abbrev pub is_stopped : CarrierSeen → HandSeen → Bool
is_stopped c h = is_interrupted c && not (is_own c h)

abbrev pub gives : CarrierSeen → HandSeen → Bool
gives c h = is_put_down c || has_switched c h || is_released c h || is_in_the_way c h || is_nobodys c h || is_stopped c h

-- WITHOUT A HAND

-- it begins to switch where something is pending, or where it has nothing to run
abbrev pub begins : CarrierSeen → Bool
begins c = is_interrupted c || (not c.switching && is_none c.goal)

abbrev pub readied : CarrierSeen → CarrierSeen
readied c = if begins c then record c { switching = true; help = None; looked = None } else c

-- the context that it is to take
abbrev pub target_with : Option Help → Bool → Option Goal → Target
target_with (Some p) switching goal = Helped p.context
target_with None true goal = Own
target_with None false (Some g) = GoalOf g
target_with None false None = Own  -- without a goal it switches

abbrev pub target_of : CarrierSeen → Target
target_of c = target_with c.help c.switching c.goal

abbrev pub context_at : CarrierSeen → Target → ℕ
context_at c (Helped context) = context
context_at c Own = own_context c
context_at c (GoalOf g) = g.id.number
