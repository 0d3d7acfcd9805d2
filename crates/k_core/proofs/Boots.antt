-- Lists that are made number by number when a run begins.
use Rattle.std.proofs.Common.{◌≡◌, ℕ, ◌+◌, ◌*◌, Bool, ◌||◌, List, [], ◌∷◌, ◌++◌, length, map, refl, sym, ap}
use Rattle.std.proofs.Common.{◌∙◌, arith}
use Rattle.std.specs.List.{All, filter, flat_map, list_any, range_with_len}
use Rattle.std.proofs.lemmas.List.{append-nil, append_assoc, length-append, map-append, map-id}
use Rattle.std.proofs.lemmas.List.Concat.{flat_map-append}
use Rattle.std.proofs.lemmas.List.Elements.{All-push, filter-append}
use Rattle.std.proofs.lemmas.List.Folds.{list_any-append}
use Rattle.std.proofs.lemmas.List.FromFn.{map-range_with_len_more}

-- one number more
pub range_more : (n : ℕ) → range_with_len 0 (n + 1) ≡ range_with_len 0 n ++ n ∷ []
range_more n = sym (map-id (range_with_len 0 (n + 1)))
    ∙ (map-range_with_len_more (λ (i : ℕ). i) 0 n n (omega arith)
    ∙ ap (λ ns. ns ++ n ∷ []) (map-id (range_with_len 0 n)))

flat_one : {X : Type 0} (f : ℕ → List X) (n : ℕ) → flat_map f (n ∷ []) ≡ f n
flat_one f n = append-nil (f n)

-- the pieces of one number more
pieces_more : {X : Type 0} (f : ℕ → List X) (n : ℕ) → flat_map f (range_with_len 0 (n + 1)) ≡ flat_map f
    (range_with_len 0 n) ++ f n
pieces_more f n = ap (flat_map f) (range_more n) ∙ (flat_map-append f (range_with_len 0 n) (n ∷ [])
    ∙ ap (λ xs. flat_map f (range_with_len 0 n) ++ xs) (flat_one f n))

-- pieces of four, and of two
pub four_more : (f : ℕ → List ℕ) (n : ℕ) (xs : List ℕ) (a b c d : ℕ) → xs ≡ flat_map f (range_with_len 0 n) →
    f n ≡ a ∷ b ∷ c ∷ d ∷ [] → (((xs ++ a ∷ []) ++ b ∷ []) ++ c ∷ []) ++ d ∷ [] ≡ flat_map f
    (range_with_len 0 (n + 1))
four_more f n xs a b c d e g = simp append_assoc (ap (λ ys. ys ++ (a ∷ b ∷ c ∷ d ∷ [])) e
    ∙ (ap (λ ys. flat_map f (range_with_len 0 n) ++ ys) (sym g) ∙ sym (pieces_more f n)))

pub two_more : {X Y : Type 0} (h : X → Y) (f : ℕ → List Y) (n : ℕ) (xs : List X) (a b : X) →
    map h xs ≡ flat_map f (range_with_len 0 n) → f n ≡ h a ∷ h b ∷ [] →
    map h ((xs ++ a ∷ []) ++ b ∷ []) ≡ flat_map f (range_with_len 0 (n + 1))
two_more h f n xs a b e g =
    ap (map h) (append_assoc xs (a ∷ []) (b ∷ []))
    ∙ (map-append h xs (a ∷ b ∷ []) ∙ (ap (λ ys. ys ++ (h a ∷ h b ∷ [])) e
    ∙ (ap (λ ys. flat_map f (range_with_len 0 n) ++ ys) (sym g) ∙ sym (pieces_more f n))))

-- one more of a list of one each
pub one_more : {X Y : Type 0} (h : X → Y) (f : ℕ → Y) (n : ℕ) (xs : List X) (a : X) →
    map h xs ≡ map f (range_with_len 0 n) → h a ≡ f n →
    map h (xs ++ a ∷ []) ≡ map f (range_with_len 0 (n + 1))
one_more h f n xs a e g = map-append h xs (a ∷ [])
    ∙ (ap (λ ys. ys ++ (h a ∷ [])) e ∙ (ap (λ (y : _). map f (range_with_len 0 n) ++ y ∷ []) g
    ∙ sym (map-range_with_len_more f 0 n n (omega arith))))

-- those that pass, of one number more
pub passing_more : (p : ℕ → Bool) (n : ℕ) → filter p (range_with_len 0 (n + 1)) ≡ filter p
    (range_with_len 0 n) ++ filter p (n ∷ [])
passing_more p n = ap (filter p) (range_more n) ∙ filter-append p (range_with_len 0 n) (n ∷ [])

-- whether any passes, of lists put together
pub any_flat : {X Y : Type 0} (p : Y → Bool) (f : X → List Y) (xs : List X) →
    list_any (λ x. list_any p (f x)) xs ≡ list_any p (flat_map f xs)
any_flat p f [] = refl
any_flat p f (x ∷ xs) = ap (λ b. list_any p (f x) || b) (any_flat p f xs)
    ∙ sym (list_any-append p (f x) (flat_map f xs))

-- one more of a list that is made by number
pub list_more : {X : Type 0} (f : ℕ → X) (n : ℕ) (xs : List X) (a : X) → xs ≡ map f (range_with_len 0 n) →
    a ≡ f n → xs ++ a ∷ [] ≡ map f (range_with_len 0 (n + 1))
list_more f n xs a e g = ap (λ ys. ys ++ a ∷ []) e ∙ (ap (λ y. map f (range_with_len 0 n) ++ y ∷ []) g
    ∙ sym (map-range_with_len_more f 0 n n (omega arith)))

pub two_size : {X : Type 0} (xs : List X) (a b : X) (n : ℕ) → length xs ≡ 2 * n →
    length ((xs ++ a ∷ []) ++ b ∷ []) ≡ 2 * (n + 1)
two_size xs a b n h = omega (arith, length-append (xs ++ a ∷ []) (b ∷ []), length-append xs (a ∷ []), h)

pub two_hold : {X : Type 0} (P : X → Type 0) (xs : List X) (a b : X) → All P xs → P a → P b →
    All P ((xs ++ a ∷ []) ++ b ∷ [])
two_hold P xs a b h f g = All-push P (xs ++ a ∷ []) b (All-push P xs a h f) g
