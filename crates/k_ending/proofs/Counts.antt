-- How many numbers pass a test, where at most one does; and none where the lowest is none.
use Rattle.std.proofs.Common.{◌≡◌, ◌≢◌, ℕ, zero, suc, ◌<◌, Bool, true, false, refl, sym, ap, ◌∙◌, Option, Some}
use Rattle.std.proofs.Common.{None, arith, inl, inr}
use Rattle.std.specs.Prelude.{if◌then◌else◌}
use Rattle.std.specs.Option.{option_or}
use Rattle.std.proofs.lemmas.Bool.{cases_eq}
use Rattle.k_model.specs.Maps.{count, lowest}
use Rattle.k_tokens.specs.Maps.{one_if}

pub count_none : (f : ℕ → Bool) (n : ℕ) → ((d : ℕ) → d < n → f d ≡ false) → count f n ≡ 0
count_none f zero h = refl
count_none f (suc n) h =
    let a = count_none f n (λ d l. h d (omega (arith, l))) in
    let b = ap one_if (h n (omega arith)) in
    omega (arith, a, b)

pub count_only : (f : ℕ → Bool) (n c : ℕ) → c < n → ((d : ℕ) → d < n → d ≢ c → f d ≡ false) → count f n ≡ one_if (f c)
count_only f zero c l h = absurd (omega (arith, l))
count_only f (suc n) c l h = elim (cases_eq c n) [
  | inl e ↦
      let a = count_none f n (λ d m. h d (omega (arith, m)) (λ z. absurd (omega (arith, z, e, m)))) in
      let b = ap (λ (d : ℕ). one_if (f d)) e in
      omega (arith, a, b)
  | inr ne ↦
      let a = count_only f n c (omega (arith, l, ne)) (λ d m. h d (omega (arith, m))) in
      let b = ap one_if (h n (omega arith) (λ z. ne (sym z))) in
      omega (arith, a, b)
]

pub none_passes : (test : ℕ → Bool) (n : ℕ) → lowest test n ≡ None → (t : ℕ) → t < n → test t ≡ false
none_passes test zero e t l = absurd (omega (arith, l))
none_passes test (suc n) e t l = by (lowest test n) (test n) refl refl e (λ z m. none_passes test n z t m)
  where
    by : (o : Option ℕ) (b : Bool) → lowest test n ≡ o → test n ≡ b → option_or o (if b then Some n else None) ≡ None →
        (lowest test n ≡ None → t < n → test t ≡ false) → test t ≡ false
    by (Some m) b p q z rest = absurd cc
    by None true p q z rest = absurd cc
    by None false p q z rest = elim (cases_eq t n) [
      | inl same ↦ ap test same ∙ q
      | inr ne ↦ rest p (omega (arith, l, ne))
    ]
