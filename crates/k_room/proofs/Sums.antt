-- Sums over the numbers below a bound.
use Rattle.std.proofs.Common.{◌≡◌, ◌≢◌, ℕ, zero, suc, ◌+◌, ◌<◌, ◌≤◌, ◌==◌, cond, refl, sym, subst, arith, inl, inr}
use Rattle.std.proofs.lemmas.Bool.{cases_eq, eq-eqb, ne_eqb}
use Rattle.k_room.specs.Room.{sum_below}

-- d at one number, and nothing elsewhere
abbrev pub only : ℕ → ℕ → ℕ → ℕ
only m d t = cond (t == m) d 0

pub only_here : (m d : ℕ) → only m d m ≡ d
only_here m d = rw (eq-eqb m m refl) refl

pub only_other : (m d t : ℕ) → t ≢ m → only m d t ≡ 0
only_other m d t ne = rw (ne_eqb t m ne) refl

sum_none : (m d size : ℕ) → size ≤ m → sum_below (only m d) size ≡ 0
sum_none m d zero l = refl
sum_none m d (suc n) l = omega (arith, sum_none m d n (omega (arith, l)), only_other m d n (omega (arith, l)))

pub sum_only : (m d size : ℕ) → m < size → sum_below (only m d) size ≡ d
sum_only m d zero l = absurd (omega arith)
sum_only m d (suc n) l = elim (cases_eq n m) [
  | inl e ↦
      let here : only m d n ≡ d = subst (λ (j : ℕ). only m d j ≡ d) (sym e) (only_here m d) in
      omega (arith, sum_none m d n (omega (arith, e)), here)
  | inr ne ↦ omega (arith, sum_only m d n (omega (arith, l, ne)), only_other m d n ne)
]

-- What is taken and what is added, number by number.
pub sum_between : (f g takes adds : ℕ → ℕ) (size : ℕ) → ((t : ℕ) → g t + takes t ≤ f t + adds t) →
    sum_below g size + sum_below takes size ≤ sum_below f size + sum_below adds size
sum_between f g takes adds zero each = omega arith
sum_between f g takes adds (suc n) each = omega (arith, sum_between f g takes adds n each, each n)

-- Each number is a part of the whole.
pub sum_part : (f : ℕ → ℕ) (size n : ℕ) → n < size → f n ≤ sum_below f size
sum_part f zero n l = absurd (omega arith)
sum_part f (suc m) n l = elim (cases_eq n m) [
  | inl e ↦ subst (λ (j : ℕ). f j ≤ sum_below f (suc m)) (sym e) (omega arith)
  | inr ne ↦ omega (arith, sum_part f m n (omega (arith, l, ne)))
]
