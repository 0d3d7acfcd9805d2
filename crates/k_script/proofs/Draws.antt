-- Draws, one after another, and lists of what they make.
use Rattle.std.proofs.Common.{◌≡◌, ℕ, List, [], ◌∷◌, ◌++◌, zero, suc, ◌+◌, ◌*◌, ◌%◌, ◌<◌, ◌≤◌, map, refl, sym, ap, ◌∙◌, arith, add-one}
use Rattle.std.specs.List.{range_with_len, AllByRecursion}
use Rattle.std.proofs.lemmas.List.FromFn.{map-range_with_len_more}
use Rattle.k_script.specs.Big.{next_state, state_after, slice_step, drawn}

pub state_more : (number draws : ℕ) → state_after number (draws + 1) ≡ next_state (state_after number draws)
unfolding state_after
state_more number draws = rw (add-one draws) refl

pub slice_more : (number index : ℕ) → slice_step number (index + 1) ≡ slice_step number index + (1 + drawn number (40 + index) 256)
unfolding slice_step
slice_more number index = rw (add-one index) refl

pub slice_none : (number : ℕ) → slice_step number 0 ≡ 0
unfolding slice_step
slice_none number = refl

pub state_none : (number : ℕ) → state_after number 0 ≡ number
unfolding state_after
state_none number = refl

-- the state wraps at each step, or once
wraps_once : (x : ℕ) → (x % 18446744073709551616 + 1442695040888963407) % 18446744073709551616 ≡ (x + 1442695040888963407) % 18446744073709551616
wraps_once x = omega arith

pub next_is : (state number draws : ℕ) → state ≡ state_after number draws → (state * 6364136223846793005 % 18446744073709551616 + 1442695040888963407) % 18446744073709551616 ≡ state_after number (draws + 1)
next_is state number draws e = wraps_once (state * 6364136223846793005) ∙ ap next_state e ∙ sym (state_more number draws)

pub all_range : {X : Type 0} (P : X → Type 0) (f : ℕ → X) (a n : ℕ) → ((i : ℕ) → a ≤ i → i < a + n → P (f i)) → AllByRecursion P (map f (range_with_len a n))
all_range P f a zero h = tt
all_range P f a (suc n) h = (h a (omega arith) (omega arith), all_range P f (a + 1) n (λ i l m. h i (omega arith) (omega arith)))

-- one more, behind the first
pub one_more : {X : Type 0} (f : ℕ → X) (first : X) (items old : List X) (x : X) (n : ℕ) → items ≡ old ++ x ∷ [] → old ≡ first ∷ map f (range_with_len 0 n) → x ≡ f n → items ≡ first ∷ map f (range_with_len 0 (n + 1))
one_more {X = X} f first items old x n pushed before is =
    let e : 0 + n ≡ n = omega arith in
    pushed
    ∙ ap (λ (xs : List X). xs ++ x ∷ []) before
    ∙ ap (λ (y : X). first ∷ (map f (range_with_len 0 n) ++ y ∷ [])) is
    ∙ ap (λ (xs : List X). first ∷ xs) (sym (map-range_with_len_more f 0 n n e))
