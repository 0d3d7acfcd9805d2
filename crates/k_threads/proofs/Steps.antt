-- Answers of steps: which can come doesn't depend on what is in hand, and what an answer leaves where it makes no step.
use Rattle.std.proofs.Common.{◌≡◌, Bool, true, false, not, refl, sym, ◌∙◌}
use Rattle.std.proofs.lemmas.Bool.{false≢true}
use Rattle.std.specs.Prelude.{if◌then◌else◌}
use Rattle.k_locks.specs.declared.steps.Answer.{Answer}
use Rattle.k_locks.specs.declared.steps.Answer.TheVariants as answer
use Rattle.k_locks.specs.declared.steps.Step.{Step}
use Rattle.k_locks.specs.declared.steps.Told.{Told}
use Rattle.k_locks.specs.declared.steps.Told.TheVariants as told
use Rattle.k_locks.specs.declared.steps.Went.TheVariants as went
use Rattle.k_locks.specs.declared.locks.Lock.{Lock}
use Rattle.k_locks.specs.Asks.{Ask, Load, LoadMail, Post, Exchange, Acquire, Release, Place, Remove, step_for}
use Rattle.k_locks.specs.Hands.{Hand}
use Rattle.k_locks.specs.Steps.{goes_on, is_again, is_again_told, suits, suits_told}
use Rattle.k_threads.specs.Went.{makes, went_on}

pub same_answers : (a : Ask) (h g : Hand) (x : Answer) → suits (step_for a h) x ≡ suits (step_for a g) x
same_answers (Load n) h g x = refl
same_answers (LoadMail n) h g x = refl
same_answers (Post n message) h g x = refl
same_answers (Exchange n old new) h g x = refl
same_answers (Acquire l) h g x = refl
same_answers (Release l) h g (answer.Got goods) = refl
same_answers (Release l) h g (answer.Told t) = refl
same_answers (Place id program priority) h g x = refl
same_answers (Remove id) h g x = refl

-- an answer that the step can have and that doesn't make it asks for it again
pub again_unmade : (s : Step) (x : Answer) → suits s x ≡ true → makes s x ≡ false → is_again x ≡ true
again_unmade s x e m = go (is_again x) (rw e at m)
  where
    go : (b : Bool) → not b ≡ false → b ≡ true
    go true n = refl
    go false n = absurd (false≢true (sym n))

pub on_again : (x : Answer) → goes_on (went_on x) ≡ true
on_again x = go (is_again x)
  where
    go : (b : Bool) → goes_on (if b then went.Again else went.On) ≡ true
    go true = refl
    go false = refl

-- a release isn't asked for again
pub released_once : (l : Lock) (h : Hand) (x : Answer) → suits (step_for (Release l) h) x ≡ true → is_again x ≡ false
released_once l h (answer.Got goods) e = refl
released_once l h (answer.Told t) e = once t e
  where
    once : (t : Told) → suits_told (step_for (Release l) h) t ≡ true → is_again_told t ≡ false
    once told.Released e = refl
    once t e = absurd (false≢true e)

pub never_unmade : (l : Lock) (h : Hand) (x : Answer) → suits (step_for (Release l) h) x ≡ true → makes (step_for (Release l) h) x ≡ false → ⊥
never_unmade l h x e m = false≢true (sym (released_once l h x e) ∙ again_unmade (step_for (Release l) h) x e m)
