-- Maps that are views of the places of all contexts: what a change of one place makes of them.
use Rattle.std.proofs.Common.{◌≡◌, ℕ, refl, sym, ap, ◌∙◌, Option, Some, None}
use Rattle.k_model.specs.Maps.{upd}
use Rattle.k_model.proofs.Maps.{upd_same, upd_other, upd_cases}
use Rattle.k_tokens.specs.Views.{by_owner}

-- a view of one changed place is the view, changed there
pub view_upd : {P : Type 0} {A : Type 0} (h : P → A) (m : ℕ → P) (t : ℕ) (v : P)
    → ◌≡◌ {A = ℕ → A} (λ u. h (upd m t v u)) (upd (λ u. h (m u)) t (h v))
view_upd {P = P} {A = A} h m t v =
    λ z u. (upd_cases (λ y. h y ≡ upd (λ u. h (m u)) t (h v) u) m t v u
    (λ e. sym (ap (upd (λ u. h (m u)) t (h v)) e ∙ upd_same (λ u. h (m u)) t (h v)))
    (λ e. sym (upd_other (λ u. h (m u)) t (h v) u e))) z

-- and where it is the same there, nothing changes
pub view_stays : {P : Type 0} {A : Type 0} (h : P → A) (m : ℕ → P) (t : ℕ) (v : P) → h v ≡ h (m t)
    → ◌≡◌ {A = ℕ → A} (λ u. h (upd m t v u)) (λ u. h (m u))
view_stays {P = P} {A = A} h m t v same = λ z u. (upd_cases (λ y. h y ≡ h (m u)) m t v u
    (λ e. same ∙ ap (λ x. h (m x)) (sym e)) (λ e. refl)) z

-- what the owner of a lock is about
pub owner_stays : {P : Type 0} {A : Type 0} (n : A) (h : P → A) (m : ℕ → P) (o : Option ℕ) (t : ℕ) (v : P)
    → (o ≡ Some t → h v ≡ h (m t)) → by_owner n h (upd m t v) o ≡ by_owner n h m o
owner_stays n h m None t v same = refl
owner_stays n h m (Some j) t v same = upd_cases (λ y. h y ≡ h (m j)) m t v j
    (λ e. same (ap Some e) ∙ ap (λ x. h (m x)) (sym e)) (λ e. refl)

pub owner_sets : {P : Type 0} {A : Type 0} (n : A) (h : P → A) (m : ℕ → P) (o : Option ℕ) (t : ℕ) (v : P) → o ≡ Some t
    → by_owner n h (upd m t v) o ≡ h v
owner_sets n h m o t v e = ap (by_owner n h (upd m t v)) e ∙ ap h (upd_same m t v)
