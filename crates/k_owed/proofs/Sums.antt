-- A sum that falls at one number, and rises nowhere.
use Rattle.std.proofs.Common.{◌≡◌, ◌≢◌, ℕ, zero, suc, ◌+◌, ◌<◌, ◌≤◌, arith, inl, inr, subst, sym}
use Rattle.std.proofs.lemmas.Bool.{cases_eq}
use Rattle.k_room.specs.Room.{sum_below}
use Rattle.k_room.proofs.Sums.{only, only_here, only_other, sum_between, sum_only}

sum_none : (n : ℕ) → sum_below (λ t. 0) n ≡ 0
sum_none zero = omega arith
sum_none (suc n) = omega (arith, sum_none n)

pub sum_falls : (f g : ℕ → ℕ) (i d count : ℕ) → i < count → g i + d ≤ f i → ((t : ℕ) → t ≢ i → g t ≤ f t) →
    sum_below g count + d ≤ sum_below f count
sum_falls f g i d count inside here others =
    omega (arith, sum_between f g (only i d) (λ t. 0) count each, sum_only i d count inside, sum_none count)
  where
    each : (t : ℕ) → g t + only i d t ≤ f t + 0
    each t = elim (cases_eq t i) [
      | inl e ↦ subst (λ (k : ℕ). g k + only i d k ≤ f k + 0) (sym e) (omega (arith, here, only_here i d))
      | inr ne ↦ omega (arith, others t ne, only_other i d t ne)
    ]

-- The sum of what changes at one number, and rises nowhere else.
pub sum_moves : (f g : ℕ → ℕ) (i count : ℕ) → i < count → ((t : ℕ) → t ≢ i → g t ≤ f t) →
    sum_below g count + f i ≤ sum_below f count + g i
sum_moves f g i count inside others =
    omega (
      arith,
      sum_between f g (only i (f i)) (only i (g i)) count each,
      sum_only i (f i) count inside,
      sum_only i (g i) count inside,
    )
  where
    each : (t : ℕ) → g t + only i (f i) t ≤ f t + only i (g i) t
    each t = elim (cases_eq t i) [
      | inl e ↦
          subst (λ (k : ℕ). g k + only i (f i) k ≤ f k + only i (g i) k) (sym e)
          (omega (arith, only_here i (f i), only_here i (g i)))
      | inr ne ↦ omega (arith, others t ne, only_other i (f i) t ne, only_other i (g i) t ne)
    ]

pub sum_same : (f g : ℕ → ℕ) (count : ℕ) → ((t : ℕ) → g t ≡ f t) → sum_below g count ≡ sum_below f count
sum_same f g zero same = omega arith
sum_same f g (suc n) same = omega (arith, sum_same f g n same, same n)

pub sum_least : (f g : ℕ → ℕ) (count : ℕ) → ((t : ℕ) → g t ≤ f t) → sum_below g count ≤ sum_below f count
sum_least f g zero each = omega arith
sum_least f g (suc n) each = omega (arith, sum_least f g n each, each n)
