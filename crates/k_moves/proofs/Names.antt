-- Contexts by number and by name.
use Rattle.std.proofs.Common.{◌≡◌, ◌≢◌, ℕ, ◌+◌, ◌-◌, ◌<◌, ◌≤◌, ◌==◌, Bool, true, false}
use Rattle.std.proofs.Common.{nat_lt, refl, sym, ap, ◌∙◌, arith, inl, inr, ◌⊎◌}
use Rattle.std.specs.Prelude.{if◌then◌else◌}
use Rattle.std.proofs.lemmas.Bool.Decides.{eqb_tells, leb_tells, nat_tests}
use Rattle.k_tokens.specs.World.{OfThread, OfCarrier}
use Rattle.k_switching.specs.Rules.{is_own, same_context}
use Rattle.k_grants.specs.Views.{name_of}

pub name_inside : (size n : ℕ) → n < size → name_of size n ≡ OfThread n
name_inside size n h = by (nat_lt n size) refl
  where
    by : (t : Bool) → nat_lt n size ≡ t → (if t then OfThread n else OfCarrier (n - size)) ≡ OfThread n
    by true e = refl
    by false e = absurd (grind (arith, nat_tests, h, e))

pub name_outside : (size n : ℕ) → size ≤ n → name_of size n ≡ OfCarrier (n - size)
name_outside size n h = by (nat_lt n size) refl
  where
    by : (t : Bool) → nat_lt n size ≡ t → (if t then OfThread n else OfCarrier (n - size)) ≡ OfCarrier (n - size)
    by true e = absurd (grind (arith, nat_tests, h, e))
    by false e = refl

pub name_beyond : (size c : ℕ) → name_of size (size + c) ≡ OfCarrier c
name_beyond size c = name_outside size (size + c) (omega arith) ∙ ap OfCarrier (let e : (size + c) - size ≡ c = omega arith in e)

-- which of the two a number is
pub which : (size n : ℕ) → ((n < size) × (name_of size n ≡ OfThread n)) ⊎ ((size ≤ n) × (name_of size n ≡ OfCarrier (n - size)))
which size n = elim (leb_tells size n) [
  | inl h ↦ inr (h.1, name_outside size n h.1)
  | inr h ↦ inl (h.1, name_inside size n h.1)
]

-- tests on numbers are the same where the numbers are equal in the same cases
pub same_tests : (a b c d : ℕ) → (a ≡ b → c ≡ d) → (c ≡ d → a ≡ b) → (a == b) ≡ (c == d)
same_tests a b c d f g = elim (eqb_tells a b) [
  | inl x ↦ elim (eqb_tells c d) [ inl y ↦ x.0 ∙ sym y.0 | inr y ↦ absurd (y.1 (f x.1)) ]
  | inr x ↦ elim (eqb_tells c d) [ inl y ↦ absurd (x.1 (g y.1)) | inr y ↦ x.0 ∙ sym y.0 ]
]

pub tests_turn : (a b : ℕ) → (a == b) ≡ (b == a)
tests_turn a b = same_tests a b b a sym sym

differ : (a b : ℕ) → a ≢ b → false ≡ (a == b)
differ a b f = elim (eqb_tells a b) [ inl y ↦ absurd (f y.1) | inr y ↦ sym y.0 ]

pub same_name : (size a b : ℕ) → same_context (name_of size a) (name_of size b) ≡ (a == b)
same_name size a b = elim (which size a) [
  | inl x ↦ elim (which size b) [
    | inl y ↦ (λ z. same_context (x.1 z) (y.1 z))
    | inr y ↦
        (λ z. same_context (x.1 z) (y.1 z)) ∙ differ a b (λ e. let l = x.0 in let m = y.0 in absurd (omega (arith, e, l, m)))
  ]
  | inr x ↦ elim (which size b) [
    | inl y ↦
        (λ z. same_context (x.1 z) (y.1 z)) ∙ differ a b (λ e. let l = x.0 in let m = y.0 in absurd (omega (arith, e, l, m)))
    | inr y ↦
        (λ z. same_context (x.1 z) (y.1 z)) ∙ same_tests (a - size) (b - size) a b
        (λ e. let l = x.0 in let m = y.0 in omega (arith, e, l, m)) (λ e. omega (arith, e))
  ]
]

pub own_name : (size c n : ℕ) → is_own c (name_of size n) ≡ (n == size + c)
own_name size c n = elim (which size n) [
  | inl x ↦ ap (is_own c) x.1 ∙ differ n (size + c) (λ e. let l = x.0 in absurd (omega (arith, e, l)))
  | inr x ↦
      ap (is_own c) x.1 ∙ same_tests (n - size) c n (size + c) (λ e. let l = x.0 in omega (arith, e, l)) (λ e. omega (arith, e))
]
