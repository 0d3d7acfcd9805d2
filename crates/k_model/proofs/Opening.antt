-- The opening state is sound.
use Rattle.std.proofs.Common.{◌≡◌, ℕ, ◌≤◌, false, not, List, [], length, refl, arith}
use Rattle.std.specs.Prelude.{nat_lt}
use Rattle.std.specs.List.{IsDistinct}
use Rattle.std.proofs.lemmas.Bool.{cond_both}
use Rattle.std.proofs.lemmas.Bool.Decides.{nat_tests}
use Rattle.k_ids.specs.declared.threads.Status.TheVariants as status
use Rattle.k_model.specs.State.{Place, nowhere}
use Rattle.k_model.specs.Sound.{IsSound}
use Rattle.k_model.specs.History.{opened, opening_place}

opening_empty : (vs : List ℕ) (n t : ℕ) → (opening_place vs n t).waiting ≡ []
opening_empty vs n t =
    cond_both (not (nat_lt t (length vs))) _ _ (λ (p : Place). p.waiting ≡ []) (λ _. refl)
    (λ _. cond_both (nat_lt t n) _ _ (λ (p : Place). p.waiting ≡ []) (λ _. refl) (λ _. refl))

opening_outside : (vs : List ℕ) (n t : ℕ) → length vs ≤ t → (opening_place vs n t).status ≡ status.Dead
opening_outside vs n t l =
    cond_both (not (nat_lt t (length vs))) _ _ (λ (p : Place). p.status ≡ status.Dead) (λ _. refl)
    (λ no. absurd (grind (arith, nat_tests)))

pub opened-sound : (vs : List ℕ) (n : ℕ) → IsSound (opened vs n)
unfolding IsDistinct
opened-sound vs n =
    record {
      queued = λ t. rw (opening_empty vs n t) tt;
      apart = λ t. rw (opening_empty vs n t) tt;
      dead = λ t e. opening_empty vs n t;
      outside = opening_outside vs n;
    }

pub opening_past : (vs : List ℕ) (n t : ℕ) → length vs ≤ t → opening_place vs n t ≡ nowhere
opening_past vs n t l =
    let no : nat_lt t (length vs) ≡ false = grind (arith, nat_tests) in
    rw no refl
