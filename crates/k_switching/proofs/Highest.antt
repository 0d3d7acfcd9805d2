-- The highest ready list that isn't empty.
use Rattle.std.proofs.Common.{◌≡◌, ℕ, suc, zero, ◌<◌, Bool, true, false, cond, refl, sym, ap, ◌∙◌, List, [], ◌∷◌, Option, Some}
use Rattle.std.proofs.Common.{None, arith, inl, inr}
use Rattle.std.proofs.lemmas.Bool.Decides.{eqb_tells}
use Rattle.k_ids.specs.declared.threads.ThreadId.{ThreadId}
use Rattle.k_tokens.specs.Maps.{is_filled}
use Rattle.k_switching.specs.Switch.{highest_filled}

highest_is_by : (k p : ℕ) (r : ℕ → List ThreadId) (o : Option ℕ) (v : Bool) → is_filled (r k) ≡ v
    → (o ≡ Some p → (is_filled (r p) ≡ true) × (p < k)) → cond v (Some k) o ≡ Some p → (is_filled (r p) ≡ true) × (p < suc k)
highest_is_by k p r o true e z f = let g : k ≡ p = cc in (ap (λ z. is_filled (r z)) (sym g) ∙ e, omega arith)
highest_is_by k p r o false e z f = let y = z f in (y.0, omega (arith, y.1))

pub highest_is : (k : ℕ) (r : ℕ → List ThreadId) (p : ℕ) → highest_filled k r ≡ Some p → (is_filled (r p) ≡ true) × (p < k)
highest_is zero r p h = cc
highest_is (suc k) r p h = highest_is_by k p r (highest_filled k r) (is_filled (r k)) refl (highest_is k r p) h

is_empty : (l : List ThreadId) → is_filled l ≡ false → l ≡ []
is_empty [] e = refl
is_empty (x ∷ l) e = cc

highest_none_by : (k p : ℕ) (r : ℕ → List ThreadId) (o : Option ℕ) (v : Bool) → is_filled (r k) ≡ v
    → (o ≡ None → p < k → r p ≡ []) → p < suc k → cond v (Some k) o ≡ None → r p ≡ []
highest_none_by k p r o true e z b f = cc
highest_none_by k p r o false e z b f = elim (eqb_tells p k) [
  | inl q ↦ ap r q.1 ∙ is_empty (r k) e
  | inr q ↦ z f (omega (arith, q.1))
]

pub highest_none : (k : ℕ) (r : ℕ → List ThreadId) (p : ℕ) → highest_filled k r ≡ None → p < k → r p ≡ []
highest_none zero r p h b = absurd (omega arith)
highest_none (suc k) r p h b = highest_none_by k p r (highest_filled k r) (is_filled (r k)) refl (highest_none k r p) b h
