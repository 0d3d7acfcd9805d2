-- What code knows of the course of a step.
use Rattle.std.specs.Prelude.{◌≡◌, ℕ, Bool, true, Option, Some, option_map}
use Rattle.k_locks.specs.declared.steps.Answer.{Answer}
use Rattle.k_locks.specs.declared.steps.Answer.TheVariants as answer
use Rattle.k_locks.specs.declared.steps.Step.{Step}
use Rattle.k_locks.specs.Steps.{suits_told}
use Rattle.k_carrier.specs.declared.running.Holder.{Holder}
use Rattle.k_carrier.specs.Running.{holder_of, running_of}
use Rattle.k_carrier.specs.Seen.{CarrierSeen, HandSeen}
use Rattle.k_world.specs.Marks.{has_mark}
use Rattle.k_world.specs.Marks as marks
use Rattle.k_world.specs.Worlds.{World, context_at}
use Rattle.k_core.specs.declared.turn.Course.{Course}
use Rattle.k_core.specs.declared.turn.Course.TheVariants as course

-- whether a step can be told this; any goods may come with a lock
abbrev pub can_tell : Step → Answer → Bool
can_tell s (answer.Got goods) = true
can_tell s (answer.Told t) = suits_told s t

-- Code tells of the context in hand what the logs need, where the step was one of its section.
abbrev pub IsCourse : CarrierSeen → Course → marks.Course → Type 0
IsCourse k course.Still d = d ≡ marks.Still
IsCourse k (course.Onward running is_counted) d =
    (h : HandSeen) × (k.hand ≡ Some h) × (running ≡ running_of k h) × (is_counted ≡ has_mark h.value) ×
    (d ≡ marks.Onward h.value)
IsCourse k (course.HeldUp running wants context) d =
    (h : HandSeen) × (k.hand ≡ Some h) × (running ≡ running_of k h) × (d ≡ marks.HeldUp h.value wants context)

-- what holds of the number of the context that holds a step up
abbrev pub IfHeldUp : (ℕ → Type 0) → Course → Type 0
IfHeldUp P (course.HeldUp running wants context) = P context
IfHeldUp P course.Still = Unit {0}
IfHeldUp P (course.Onward running is_counted) = Unit {0}

-- This is told of who holds a step up, in a world; nothing where that isn't there.
abbrev pub IsHolderOf : World → Course → Option Holder → Type 0
IsHolderOf w (course.HeldUp running wants context) holder = holder ≡ option_map (λ v. holder_of v wants)
    (context_at w context)
IsHolderOf w course.Still holder = Unit {0}
IsHolderOf w (course.Onward running is_counted) holder = Unit {0}
