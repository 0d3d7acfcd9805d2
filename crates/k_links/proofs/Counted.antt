-- As many entries as numbers at most.
use Rattle.std.proofs.Common.{◌≡◌, ◌<◌, ◌≤◌, ℕ, zero, suc, true, false, List, [], ◌∷◌, length, arith, subst, inl, inr}
use Rattle.std.proofs.lemmas.Bool.{cases_Bool, cases_eq}
use Rattle.k_links.specs.Listed.{IsOnceEach, stands, without}
use Rattle.k_links.proofs.Removed.{length_without, once_without, stands_without}

module _ {E : Type 0} (number : E → ℕ) where
  left_below : (n k : ℕ) (es : List E) → IsOnceEach number es → (stands number n es ≡ true → n < suc k) → stands number n (without number k es) ≡ true → n < k
  left_below n k es o h t = grind (arith, stands_without number n k es o)

  other_below : (n k : ℕ) (es : List E) → (stands number n es ≡ true → n < suc k) → stands number k es ≡ false → stands number n es ≡ true → n < k
  other_below n k es h s t = elim (cases_eq n k) [
    | inl e ↦ absurd (let a : stands number k es ≡ true = subst (λ (m : ℕ). stands number m es ≡ true) e t in cc)
    | inr ne ↦ omega (arith, h t)
  ]

  few_more : (k : ℕ) (es : List E) → IsOnceEach number es → ((n : ℕ) → stands number n es ≡ true → n < suc k) → ((fs : List E) → IsOnceEach number fs → ((n : ℕ) → stands number n fs ≡ true → n < k) → length fs ≤ k) → length es ≤ suc k
  few_more k es o h rec = elim (cases_Bool (stands number k es)) [
    | inl s ↦ omega (arith, length_without number k es s, rec (without number k es) (once_without number k es o) (λ n t. left_below n k es o (h n) t))
    | inr s ↦ omega (arith, rec es o (λ n t. other_below n k es (h n) s t))
  ]

  pub few : (k : ℕ) (es : List E) → IsOnceEach number es → ((n : ℕ) → stands number n es ≡ true → n < k) → length es ≤ k
  few k [] o h = omega arith
  few zero (f ∷ es) o h = absurd (let l : number f < 0 = h (number f) (grind arith) in omega arith)
  few (suc k) es o h = few_more k es o h (few k)
