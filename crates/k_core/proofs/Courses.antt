-- What became of a section, by what is told of its step.
use Rattle.std.proofs.Common.{◌≡◌, ℕ, true, Option, Some, refl, sym, subst, ap, ◌∙◌, inl, inr}
use Rattle.std.specs.Prelude.{option_map}
use Rattle.std.proofs.lemmas.Bool.{cases_Bool, false≢true}
use Rattle.k_locks.specs.declared.steps.Answer.{Answer}
use Rattle.k_locks.specs.declared.steps.Answer.TheVariants as answer
use Rattle.k_locks.specs.declared.steps.Step.{Step}
use Rattle.k_locks.specs.declared.steps.Step.TheVariants as step
use Rattle.k_locks.specs.declared.steps.Told.{Told}
use Rattle.k_locks.specs.declared.steps.Told.TheVariants as told
use Rattle.k_locks.specs.Steps.{suits_told}
use Rattle.k_caller.specs.declared.ran.Ran.{Ran}
use Rattle.k_caller.specs.declared.ran.Ran.TheVariants as ran
use Rattle.k_switch.specs.declared.goal.Goal.{Goal}
use Rattle.k_context.specs.declared.owner.Owner.{Owner}
use Rattle.k_context.specs.declared.owner.Owner.TheVariants as owner
use Rattle.k_context.specs.Contexts.{ContextSeen, owner_of, ran_of}
use Rattle.k_carrier.specs.declared.marks.Want.TheVariants as want
use Rattle.k_carrier.specs.declared.moves.Stepped.{Stepped}
use Rattle.k_carrier.specs.declared.moves.Stepped.TheVariants as stepped
use Rattle.k_carrier.specs.declared.running.Running.{Running}
use Rattle.k_carrier.specs.Asked.{lock_acquired}
use Rattle.k_carrier.specs.Resumed.{lock_awaited, told_in}
use Rattle.k_carrier.specs.Rules.{is_goals}
use Rattle.k_carrier.specs.Running.{running_in, running_of}
use Rattle.k_carrier.specs.Seen.{CarrierSeen, HandSeen}
use Rattle.k_carrier.specs.Told.{told_by, told_step, told_waiting}
use Rattle.k_world.specs.Marks.{Course, HeldUp, Onward, Still, course_by, course_told}
use Rattle.k_core.specs.Courses.{can_tell}

-- what became of the section of this context where this is told
abbrev pub Tells : ContextSeen → Stepped → Course → Type 0
Tells v (stepped.Missed context holder) d = d ≡ Still
Tells v (stepped.Blocked l owner) d = d ≡ HeldUp v (want.Lock l) owner
Tells v (stepped.BlockedBy context) d = d ≡ HeldUp v (want.Context context) context
Tells v stepped.On d = d ≡ Onward v
Tells v stepped.Left d = d ≡ Onward v
Tells v stepped.Idle d = d ≡ Onward v
Tells v (stepped.Replied id serial reply) d = d ≡ Onward v

-- of a context whose step was made
tells_ran : (v : ContextSeen) (goal : Option Goal) (o : Owner) (r : Ran) →
    Tells v (told_by goal o r) (Onward v)
tells_ran v goal o ran.Left = elim (cases_Bool (is_goals goal o)) [ inl e ↦ rw e refl | inr n ↦ rw n refl ]
tells_ran v goal (owner.Thread id) (ran.Replied serial reply) = refl
tells_ran v goal (owner.Carrier n) (ran.Replied serial reply) = refl
tells_ran v goal o ran.On = refl
tells_ran v goal o ran.Again = refl
tells_ran v goal o (ran.Pushed priority) = refl
tells_ran v goal o ran.Dead = refl

tells_owned : (v : ContextSeen) (s : Step) (i : ℕ) (p : Stepped) → suits_told s (told.Owned i) ≡ true →
    Tells v (told_waiting (lock_acquired s) (Some (told.Owned i)) p) (course_told v s (told.Owned i))
tells_owned v (step.Acquire l) i p h = refl
tells_owned v (step.Load name) i p h = absurd (false≢true h)
tells_owned v (step.Store name value) i p h = absurd (false≢true h)
tells_owned v (step.Exchange name old new) i p h = absurd (false≢true h)
tells_owned v (step.Release l g) i p h = absurd (false≢true h)
tells_owned v (step.Place id program priority) i p h = absurd (false≢true h)
tells_owned v (step.Remove id) i p h = absurd (false≢true h)

tells_told : (v : ContextSeen) (s : Step) (t : Told) (p : Stepped) → suits_told s t ≡ true →
    Tells v p (Onward v) → Tells v (told_waiting (lock_acquired s) (Some t) p) (course_told v s t)
tells_told v s (told.Owned i) p h g = tells_owned v s i p h
tells_told v s (told.Holds i) p h g = refl
tells_told v s (told.Taken i c) p h g = refl
tells_told v s (told.Loaded found) p h g = g
tells_told v s told.Stored p h g = g
tells_told v s told.Won p h g = g
tells_told v s (told.Lost found) p h g = g
tells_told v s told.Released p h g = g
tells_told v s told.Placed p h g = g
tells_told v s told.Removed p h g = g

tells_answer : (v : ContextSeen) (s : Step) (a : Answer) (p : Stepped) → can_tell s a ≡ true →
    Tells v p (Onward v) → Tells v (told_waiting (lock_acquired s) (told_in a) p) (course_by v s a)
tells_answer v s (answer.Got g) p h t = t
tells_answer v s (answer.Told t) p h g = tells_told v s t p h g

-- what is told of a carrier's step of its hand
pub tells : (k : CarrierSeen) (h : HandSeen) (s : Step) (a : Answer) (p : Stepped) →
    lock_awaited k.awaits ≡ lock_acquired s → can_tell s a ≡ true → p ≡ told_step k h a →
    Tells h.value p (course_by h.value s a)
tells k h s a p e fit is =
    let plain : Stepped = told_by k.goal (owner_of h.value) (ran_of h.value a) in
    let same : told_waiting (lock_acquired s) (told_in a) plain ≡ p =
    ap (λ l. told_waiting l (told_in a) plain) (sym e) ∙ sym is in
    subst (λ q. Tells h.value q (course_by h.value s a)) same
    (tells_answer h.value s a plain fit (tells_ran h.value k.goal (owner_of h.value) (ran_of h.value a)))

-- what is told of the hand
pub running_is : (k : CarrierSeen) (h : HandSeen) (o : Option Running) (r : Running) → k.hand ≡ Some h →
    o ≡ running_in k → o ≡ Some r → r ≡ running_of k h
running_is k h o r hand e is =
    let same : Some r ≡ Some (running_of k h) = sym is ∙ (e ∙ ap (option_map (running_of k)) hand) in cc
