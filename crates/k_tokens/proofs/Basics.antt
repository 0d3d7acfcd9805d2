-- Maps on threads, lists of threads, and counts.
use Rattle.std.proofs.Common.{◌≡◌, ◌≢◌, ℕ, suc, zero, ◌+◌, ◌<◌, ◌≤◌, Bool, true, false, cond, refl, sym, ap, List, [], ◌∷◌}
use Rattle.std.proofs.Common.{◌++◌, arith, ◌⊎◌, inl, inr}
use Rattle.std.proofs.lemmas.Bool.Decides.{nat_tests, eqb_tells}
use Rattle.k_ids.specs.declared.threads.ThreadId.{ThreadId}
use Rattle.k_model.specs.Maps.{count}
use Rattle.k_model.specs.State.{same_id}
use Rattle.k_tokens.specs.Maps.{put, times, without, one_if}

pub same_is : (x y : ThreadId) → x.number ≡ y.number → x.version ≡ y.version → x ≡ y
same_is x y n v = λ d. record { number = n d; version = v d }

-- two ids are one, or differ in a number
pub id_tells : (x y : ThreadId) → ((same_id x y ≡ true) × (x ≡ y) × (x.number ≡ y.number) × (x.version ≡ y.version))
    ⊎ ((same_id x y ≡ false) × ((x.number ≢ y.number) ⊎ (x.version ≢ y.version)))
id_tells x y = elim (eqb_tells x.number y.number) [
  | inl n ↦ elim (eqb_tells x.version y.version) [
    | inl v ↦ inl (grind (arith, nat_tests), same_is x y n.1 v.1, n.1, v.1)
    | inr v ↦ inr (grind (arith, nat_tests), inr v.1)
  ]
  | inr n ↦ inr (grind (arith, nat_tests), inl n.1)
]

put_there : {A : Type 0} (f : ThreadId → A) (x : ThreadId) (v : A) (y : ThreadId) → same_id y x ≡ true → put f x v y ≡ v
unfolding put
put_there f x v y h = grind (arith, nat_tests)

put_elsewhere : {A : Type 0} (f : ThreadId → A) (x : ThreadId) (v : A) (y : ThreadId) → same_id y x ≡ false → put f x v y ≡ f y
unfolding put
put_elsewhere f x v y h = grind (arith, nat_tests)

-- for `grind`: what the changed map has at any thread
pub put_tells : {A : Type 0} (f : ThreadId → A) (x : ThreadId) (v : A) (y : ThreadId)
    → ((put f x v y ≡ v) × (y ≡ x) × (y.number ≡ x.number) × (y.version ≡ x.version))
    ⊎ ((put f x v y ≡ f y) × ((y.number ≢ x.number) ⊎ (y.version ≢ x.version)))
put_tells f x v y = elim (id_tells y x) [
  | inl h ↦ inl (put_there f x v y h.0, h.1, h.2, h.3)
  | inr h ↦ inr (put_elsewhere f x v y h.0, h.1)
]

-- LISTS

pub times_append : (x y : ThreadId) (l : List ThreadId) → times x (l ++ y ∷ []) ≡ times x l + cond (same_id y x) 1 0
times_append x y [] = grind (arith, nat_tests)
times_append x y (z ∷ l) = grind (arith, nat_tests, times_append x y l)

pub times_without : (x y : ThreadId) (l : List ThreadId) → times y (without x l) ≡ cond (same_id x y) 0 (times y l)
times_without x y [] = grind (arith, nat_tests)
times_without x y (z ∷ l) = grind (arith, nat_tests, times_without x y l)

-- COUNTS

pub count_same : (f g : ℕ → Bool) (n : ℕ) → ((c : ℕ) → c < n → f c ≡ g c) → count f n ≡ count g n
count_same f g zero h = refl
count_same f g (suc n) h =
    let a = h n (omega arith) in
    let b = count_same f g n (λ c l. h c (omega (arith, l))) in
    grind (arith, ap one_if a, b)

-- tests that agree but at one number
pub count_other : (f g : ℕ → Bool) (n d : ℕ) → d < n → ((c : ℕ) → c ≢ d → f c ≡ g c)
    → count f n + one_if (g d) ≡ count g n + one_if (f d)
count_other f g zero d b h = absurd (omega arith)
count_other f g (suc n) d b h = elim (eqb_tells d n) [
  | inl q ↦
      let a = count_same f g n (λ c l. h c (λ e. absurd (omega (arith, e, q.1, l)))) in
      let e : one_if (f d) ≡ one_if (f n) = ap (λ z. one_if (f z)) q.1 in
      let i : one_if (g d) ≡ one_if (g n) = ap (λ z. one_if (g z)) q.1 in
      omega (arith, a, e, i)
  | inr q ↦
      let a = count_other f g n d (omega (arith, q.1)) h in
      let e = ap one_if (h n (λ z. q.1 (sym z))) in
      omega (arith, a, e)
]

-- who passes is counted
pub count_has : (f : ℕ → Bool) (n d : ℕ) → d < n → one_if (f d) ≤ count f n
count_has f zero d b = absurd (omega arith)
count_has f (suc n) d b = elim (eqb_tells d n) [
  | inl q ↦ let e : one_if (f d) ≡ one_if (f n) = ap (λ z. one_if (f z)) q.1 in omega (arith, e)
  | inr q ↦ let a = count_has f n d (omega (arith, q.1)) in omega (arith, a)
]
