-- A mask with one bit changed, and its highest bit, by its leading zeros.
use Rattle.std.proofs.Common.{◌≢◌, ◌≡◌, ◌<◌, ◌≤◌, ◌+◌, ◌-◌, ◌*◌, ◌/◌, ◌%◌, ◌^◌, ℕ, arith, suc, refl}
use Rattle.std.proofs.lemmas.Grind.{common_steps}
use Rattle.std.specs.Prelude.{bit_and, bit_or}
use Rattle.std.specs.Int.{bit_at, w64}
use Rattle.std.specs.Int.Count.{count_leading_zeros}
use Rattle.std.proofs.lemmas.Nat.{leading_top}
use Rattle.std.proofs.Math.Nat.{div-lt_iff_lt-mul, lt-mul-div-succ}
use Rattle.std.proofs.lemmas.Nat.Bits.{bit_at_above, bit_at_clear_other, bit_at_clear_same, bit_at_set_other, bit_at_set_same}

pub set_same : (mask p : ℕ) → p < 64 → bit_at (bit_or mask (1 * 2 ^ p % 2 ^ 64)) p ≡ 1
set_same mask p l = bit_at_set_same w64 mask p l

pub set_other : (mask p q : ℕ) → p < 64 → q ≢ p → bit_at (bit_or mask (1 * 2 ^ p % 2 ^ 64)) q ≡ bit_at mask q
set_other mask p q l ne = bit_at_set_other w64 mask p l q ne

pub clear_same : (mask p : ℕ) → p < 64 → bit_at (bit_and mask (2 ^ 64 - 1 - 1 * 2 ^ p % 2 ^ 64)) p ≡ 0
clear_same mask p l = bit_at_clear_same w64 mask p l

pub clear_other : (mask p q : ℕ) → p < 64 → q < 64 → q ≢ p → bit_at (bit_and mask (2 ^ 64 - 1 - 1 * 2 ^ p % 2 ^ 64)) q ≡ bit_at mask q
clear_other mask p q l i ne = bit_at_clear_other w64 mask p l q i ne

one_time : (n d : ℕ) → d ≤ n → n < 2 * d → n / d ≡ 1
one_time n d a b =
    let p : 0 < d = omega arith in
    let up : n / d < 2 = (div-lt_iff_lt-mul {k = d} {x = n} {y = 2} p).1 b in
    let low : n / d ≢ 0 = λ e. (let h : n < d * (n / d + 1) = lt-mul-div-succ n {b = d} p in let g : n < d * (0 + 1) = rw e at h in omega arith) in
    omega arith

top_bit : (n j : ℕ) → 2 ^ j ≤ n → n < 2 ^ suc j → bit_at n j ≡ 1
top_bit n j a b = rw (one_time n (2 ^ j) a (grind (arith, common_steps))) refl

pub highest_bit : (n : ℕ) → 0 < n → n < 2 ^ 64 → bit_at n (63 - count_leading_zeros 64 n) ≡ 1
highest_bit n a b =
    let t = leading_top 64 n a b in
    let e : 63 - count_leading_zeros 64 n ≡ t.0 = omega (arith, t.1) in
    rw e (top_bit n t.0 t.2 t.3)

pub none_above : (n : ℕ) → 0 < n → n < 2 ^ 64 → (p : ℕ) → 63 - count_leading_zeros 64 n < p → bit_at n p ≡ 0
none_above n a b p l =
    let t = leading_top 64 n a b in
    bit_at_above n (suc t.0) p t.3 (omega (arith, t.1))
