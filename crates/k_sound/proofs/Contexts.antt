-- Any context stays sound.
use Rattle.std.proofs.Common.{◌≡◌, ◌<◌, ℕ, true, refl}
use Rattle.k_locks.specs.Steps.{suits}
use Rattle.k_locks.specs.declared.steps.Answer.{Answer}
use Rattle.k_script.specs.Limits.{IsScript}
use Rattle.k_script.specs.Script.{Script}
use Rattle.k_context.specs.Contexts.{Carrier, ContextSeen, IsFit, IsSound, Thread, asked, begun, carrier_of}
use Rattle.k_context.specs.Contexts.{is_open, resumed, step_of}
use Rattle.k_sound.specs.Hands.{HandProper}
use Rattle.k_sound.proofs.Switches.{own_answered, own_asked}
use Rattle.k_sound.proofs.Threads.{thread_answered, thread_asked, thread_begun}

pub begun_sound : (script : Script) (v : ContextSeen) → IsScript script → IsSound script v →
    IsSound script (begun script v)
begun_sound script (Thread t) whole sound = thread_begun script t whole sound
begun_sound script (Carrier k) whole sound = sound

pub asked_sound : (script : Script) (v : ContextSeen) → IsSound script v → IsSound script (asked v)
asked_sound script (Thread t) sound = thread_asked script t sound
asked_sound script (Carrier k) sound = own_asked k sound

pub answered_sound : (script : Script) (v : ContextSeen) (a : Answer) → is_open v ≡ true →
    IsSound script v → suits (step_of v) a ≡ true → HandProper v → IsFit script v a →
    IsSound script (resumed v a)
answered_sound script (Thread t) a opened sound suiting proper fit =
    thread_answered script t a opened sound suiting proper fit
answered_sound script (Carrier k) a opened sound suiting proper fit = own_answered k a sound fit

pub own_new : (script : Script) (number : ℕ) → number < 8 → IsSound script (carrier_of number)
own_new script number few = record { carrier = few; uncounted = λ e. refl; switch = tt }
