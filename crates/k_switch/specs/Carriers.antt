-- A carrier's own context: it makes its carrier's switches, one after the other. Between two of them it has no step.
use Rattle.std.specs.Prelude.{ℕ, ◌-◌, ◌^◌, ◌≡◌, ◌<◌, ◌==◌, Bool, false, if◌then◌else◌, Option, Some, None, is_some, option_map, IfSome, List}
use Rattle.k_locks.specs.declared.locks.Lock.{Lock}
use Rattle.k_locks.specs.declared.locks.WordName.TheVariants as word
use Rattle.k_locks.specs.declared.steps.Step.{Step}
use Rattle.k_locks.specs.declared.steps.Step.TheVariants as step
use Rattle.k_locks.specs.declared.steps.Answer.{Answer}
use Rattle.k_locks.specs.Steps.{is_again, one_more}
use Rattle.k_switch.specs.declared.goal.Switched.{Switched}
use Rattle.k_switch.specs.declared.switch.SwitchCall.{SwitchCall}
use Rattle.k_switch.specs.declared.switch.Switch.{Switch}
use Rattle.k_switch.specs.declared.carrier_context.CarrierContext.{CarrierContext}
use Rattle.k_switch.specs.Switches.{IsGoal, at_of, hand_of, is_asked, moved, no_lock, switch_of, switched_at}
use Rattle.k_switch.specs.Switches as switches

-- the context of the carrier with this number
abbrev pub carrier_of : ℕ → CarrierContext
carrier_of number = record { carrier = number; serial = 0; done = 0; switch = None }

-- BEGIN AND END OF A SWITCH

-- the serial at which the count of the switches stands still
abbrev pub last_serial : ℕ
last_serial = 2 ^ 32 - 1

abbrev pub with_switch : SwitchCall → CarrierContext → CarrierContext
with_switch c k = record k { serial = one_more k.serial; done = 0; switch = Some (switch_of c) }

abbrev pub without_switch : CarrierContext → CarrierContext
without_switch k = record k { switch = None }

-- finished or not
abbrev pub has_switch : CarrierContext → Bool
has_switch k = is_some k.switch

abbrev pub switched_in : Option Switch → Option Switched
switched_in None = None
switched_in (Some s) = switched_at s.location

-- what a finished switch has come to
abbrev pub switched_of : CarrierContext → Option Switched
switched_of k = switched_in k.switch

-- THE STEP

abbrev pub step_in : Option Switch → Step
step_in None = step.Load (word.State 0)  -- it isn't asked
step_in (Some s) = switches.step_of s

abbrev pub step_of : CarrierContext → Step
step_of k = step_in k.switch

abbrev pub asked : CarrierContext → CarrierContext
asked k = record k { switch = option_map switches.asked k.switch }

-- A step more of this switch. From the last serial on no step is counted, since two switches couldn't be told apart.
abbrev pub done_after : CarrierContext → ℕ
done_after k = if k.serial == last_serial then k.done else one_more k.done

-- An answer for the same step again changes nothing.
abbrev pub resumed : CarrierContext → Answer → CarrierContext
resumed k a = if is_again a then k else record k { done = done_after k; switch = option_map (λ s. moved s a) k.switch }

-- LOCKS, AND STEPS LEFT

abbrev pub locks_in : Option Switch → List (Option Lock)
locks_in None = no_lock
locks_in (Some s) = switches.locks_of (at_of s.location)

-- the locks that are held, by rank
abbrev pub locks_of : CarrierContext → List (Option Lock)
locks_of k = locks_in k.switch

abbrev pub left_in : Option Switch → Lock → ℕ
left_in None l = 0
left_in (Some s) l = switches.left_of s.call (at_of s.location) l

-- how many steps are left until this lock is released, that release included; 0 where it isn't held
abbrev pub left_of : CarrierContext → Lock → ℕ
left_of k l = left_in k.switch l

-- CONDITIONS

abbrev pub can_ask_in : Option Switch → Bool
can_ask_in None = false
can_ask_in (Some s) = switches.can_ask s.location

-- its step can be asked for
abbrev pub can_ask : CarrierContext → Bool
can_ask k = can_ask_in k.switch

abbrev pub is_open_in : Option Switch → Bool
is_open_in None = false
is_open_in (Some s) = is_asked (at_of s.location)

-- its step was asked for, so that an answer may come
abbrev pub is_open : CarrierContext → Bool
is_open k = is_open_in k.switch

abbrev pub CanPushIn : Option Switch → Type 0
CanPushIn None = Unit {0}
CanPushIn (Some s) = switches.CanPush s.call (hand_of s.location) (at_of s.location)

-- what a release puts back has room for what is pushed
abbrev pub CanPush : CarrierContext → Type 0
CanPush k = CanPushIn k.switch

-- a switch can be begun so
pub record IsCall (c : SwitchCall) : Type 0 where
  pub goal : IfSome c.goal IsGoal
  pub start : IfSome c.start (λ number. number < 64)

pub record IsSound (k : CarrierContext) : Type 0 where
  pub carrier : k.carrier < 8
  pub uncounted : k.serial ≡ last_serial → k.done ≡ 0
  pub switch : IfSome k.switch switches.IsSound

-- what can be told of the step
abbrev pub IsFit : CarrierContext → Answer → Type 0
IsFit k a = switches.IsFit a
