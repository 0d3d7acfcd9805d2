-- What is told, for the logs, of the context in a carrier's hand and of one that is waited for.
use Rattle.std.specs.Prelude.{ℕ, Bool, true, false, Option, Some, None, option_map}
use Rattle.k_locks.specs.declared.locks.Lock.{Lock}
use Rattle.k_locks.specs.Locks.{lowest_held}
use Rattle.k_switch.specs.declared.goal.Goal.{Goal}
use Rattle.k_context.specs.declared.owner.Owner.{Owner}
use Rattle.k_context.specs.declared.owner.Owner.TheVariants as owner
use Rattle.k_context.specs.Contexts.{ContextSeen, done_of, left_of, locks_of, owner_of, serial_of}
use Rattle.k_carrier.specs.declared.marks.Want.{Want}
use Rattle.k_carrier.specs.declared.marks.Want.TheVariants as want
use Rattle.k_carrier.specs.declared.running.Holder.{Holder}
use Rattle.k_carrier.specs.declared.running.Running.{Running}
use Rattle.k_carrier.specs.Rules.{is_helped}
use Rattle.k_carrier.specs.Seen.{CarrierSeen, HandSeen}

-- for whom a carrier makes a step: for itself while it switches, else for its goal
abbrev pub runner_by : Bool → ℕ → Option Goal → Owner
runner_by true number goal = owner.Carrier number
runner_by false number (Some g) = owner.Thread g.id
runner_by false number None = owner.Carrier number

abbrev pub runner_of : CarrierSeen → Owner
runner_of c = runner_by c.switching c.number c.goal

abbrev pub running_of : CarrierSeen → HandSeen → Running
running_of c h = record {
  context = h.context;
  owner = owner_of h.value;
  serial = serial_of h.value;
  done = done_of h.value;
  runner = runner_of c;
  is_helped = is_helped c h;
}

abbrev pub running_in : CarrierSeen → Option Running
running_in c = option_map (running_of c) c.hand

-- HOW FAR AN OWNER IS

abbrev pub left_for_lowest : ContextSeen → Option Lock → ℕ
left_for_lowest v None = 0
left_for_lowest v (Some l) = left_of v l

-- how many steps are left until a context has released what is wanted, that release included; of a context that is to be removed
-- it is the lock of the lowest rank, since the others are released before
abbrev pub left_for : ContextSeen → Want → ℕ
left_for v (want.Lock l) = left_of v l
left_for v (want.Context number) = left_for_lowest v (lowest_held (locks_of v))

abbrev pub holder_of : ContextSeen → Want → Holder
holder_of v wanted = record { owner = owner_of v; serial = serial_of v; left = left_for v wanted }

abbrev pub holder_in : CarrierSeen → Want → Option Holder
holder_in c wanted = option_map (λ h. holder_of h.value wanted) c.hand
