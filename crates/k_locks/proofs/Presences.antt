-- The mask of thread numbers as a list.
use Rattle.std.proofs.Common.{◌≡◌, ◌≢◌, ◌<◌, ◌≤◌, inl, inr, ℕ, ◌+◌, ◌*◌, ◌/◌, ◌^◌, ◌%◌, Bool, List, true, false, sym, ap, ◌∙◌, subst, arith, length, slice_index_or, slice_set}
use Rattle.std.specs.Prelude.{take}
use Rattle.std.proofs.lemmas.Bool.{cases_eq}
use Rattle.std.proofs.lemmas.Grind.{get_or-set_at}
use Rattle.std.specs.Prelude.{◌==◌}
use Rattle.std.specs.Int.{bit_at, bit_not, w64}
use Rattle.std.specs.Int.Bits.{bit_and, bit_or}
use Rattle.std.proofs.lemmas.List.{ext_get_or, get_or-set_other, get_or-take, length-set, length-take}
use Rattle.std.proofs.Math.Seq.{take-set-lt}
use Rattle.std.proofs.lemmas.List.FromFn.{get_or-map-range_with_len, length-map-range_with_len}
use Rattle.std.proofs.lemmas.Nat.Bits.{bit_at_clear_other, bit_at_clear_same, bit_at_set_other, bit_at_set_same, shr_and_one}
use Rattle.k_locks.specs.Numbers.{ThreadNumbers, presences, with_thread, without_thread}

pub length-presences : (mask count : ℕ) → length (presences mask count) ≡ count
length-presences mask count = length-map-range_with_len (λ n. bit_at mask n == 1) 0 count

pub presence_at : (mask count number : ℕ) → number < count → slice_index_or (presences mask count) number false ≡ (bit_at mask number == 1)
presence_at mask count number lt = get_or-map-range_with_len (λ n. bit_at mask n == 1) 0 count number number false lt (omega arith)

-- one number's bit becomes b, and the others stay
changed : (mask mask' count number : ℕ) (b : Bool) → (bit_at mask' number == 1) ≡ b → ((i : ℕ) → i < count → i ≢ number → bit_at mask' i ≡ bit_at mask i) → presences mask' count ≡ slice_set (presences mask count) number b
changed mask mask' count number b same others =
    ext_get_or false (presences mask' count) (slice_set (presences mask count) number b) long each
  where
    long : length (presences mask' count) ≡ length (slice_set (presences mask count) number b)
    long = length-presences mask' count ∙ sym (length-set (presences mask count) number b ∙ length-presences mask count)

    each : (i : ℕ) → i < length (presences mask' count) → slice_index_or (presences mask' count) i false ≡ slice_index_or (slice_set (presences mask count) number b) i false
    each i lt =
        let below : i < count = subst (λ n. i < n) (length-presences mask' count) lt in
        let inside : i < length (presences mask count) = subst (λ n. i < n) (sym (length-presences mask count)) below in
        elim (cases_eq i number) [
          | inl q ↦ presence_at mask' count i below ∙ ap (λ n. bit_at mask' n == 1) q ∙ same ∙ sym (get_or-set_at (presences mask count) number i b false q (subst (λ n. n < length (presences mask count)) q inside))
          | inr ne ↦ presence_at mask' count i below ∙ ap (λ n. n == 1) (others i below ne) ∙ sym (presence_at mask count i below) ∙ sym (get_or-set_other (presences mask count) number i b false ne)
        ]

pub presence_set : (mask count number : ℕ) → number < 64 → presences (bit_or mask (1 * 2 ^ number % 2 ^ 64)) count ≡ slice_set (presences mask count) number true
presence_set mask count number lt = changed mask (bit_or mask (1 * 2 ^ number % 2 ^ 64)) count number true
    (ap (λ n. n == 1) (bit_at_set_same w64 mask number lt))
    (λ i below ne. bit_at_set_other w64 mask number lt i ne)

pub presence_cleared : (mask count number : ℕ) → number < 64 → count ≤ 64 → presences (bit_and mask (bit_not w64 (1 * 2 ^ number % 2 ^ 64))) count ≡ slice_set (presences mask count) number false
presence_cleared mask count number lt few = changed mask (bit_and mask (bit_not w64 (1 * 2 ^ number % 2 ^ 64))) count number false
    (ap (λ n. n == 1) (bit_at_clear_same w64 mask number lt))
    (λ i below ne. bit_at_clear_other w64 mask number lt i (omega (arith, below, few)) ne)

-- the test of the code
pub is_bit : (mask number : ℕ) → (bit_and (mask / 2 ^ number) 1 == 1) ≡ (bit_at mask number == 1)
is_bit mask number = ap (λ n. n == 1) (shr_and_one mask number)

-- WHAT CONTRACTS SEE

abbrev pub shown : List ℕ → ℕ → ℕ → ThreadNumbers
shown versions mask count = record { versions = take count versions; present = presences mask count }

pub length-shown : (versions : List ℕ) (count : ℕ) → length versions ≡ 64 → count ≤ 64 → length (take count versions) ≡ count
length-shown versions count long few = omega (arith, length-take count versions, long, few)

pub shown_with : (versions : List ℕ) (mask count number : ℕ) → count ≤ 64 → number < count → shown (slice_set versions number (slice_index_or versions number 0 + 1)) (bit_or mask (1 * 2 ^ number % 2 ^ 64)) count ≡ with_thread number (shown versions mask count)
shown_with versions mask count number few lt =
    let same : slice_index_or (take count versions) number 0 ≡ slice_index_or versions number 0 = get_or-take count versions number 0 lt in
    let kept : take count (slice_set versions number (slice_index_or versions number 0 + 1)) ≡ slice_set (take count versions) number (slice_index_or (take count versions) number 0 + 1) = take-set-lt count versions number (slice_index_or versions number 0 + 1) lt ∙ ap (λ n. slice_set (take count versions) number (n + 1)) (sym same) in
    ap (λ vs. record { versions = vs; present = presences (bit_or mask (1 * 2 ^ number % 2 ^ 64)) count }) kept
    ∙ ap (λ ps. record { versions = slice_set (take count versions) number (slice_index_or (take count versions) number 0 + 1); present = ps }) (presence_set mask count number (omega (arith, lt, few)))

pub shown_without : (versions : List ℕ) (mask count number : ℕ) → count ≤ 64 → number < 64 → shown versions (bit_and mask (bit_not w64 (1 * 2 ^ number % 2 ^ 64))) count ≡ without_thread number (shown versions mask count)
shown_without versions mask count number few lt = ap (λ ps. record { versions = take count versions; present = ps }) (presence_cleared mask count number lt few)
