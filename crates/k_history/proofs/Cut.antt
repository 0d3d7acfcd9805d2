-- The words of a line, one after the other, and the place of the first element that passes.
use Rattle.std.proofs.Common.{◌≡◌, ℕ, suc, get_or, add-one, drop-cons, ◌+◌, ◌<◌, ◌≤◌, Bool, true, not, List, [], ◌∷◌, ◌++◌, length, take, drop, map, refl, sym, ap, ◌∙◌, arith, Option, Some, None, MatchOption, option_map, position, set, append_assoc, length-append, inl, inr}
use Rattle.std.specs.List.{position_or_len, list_all}
use Rattle.std.proofs.lemmas.Bool.{and_parts, cases_Bool, le-ltb}
use Rattle.std.proofs.lemmas.List.{take-append-drop, length-map, length-take, map-append, take_more_set}
use Rattle.std.proofs.lemmas.List.Splits.{length-slice_split}
use Rattle.k_lists.proofs.Positions.{position_at}
use Rattle.k_history.specs.Reading.{is_space, parts_of}

-- the words in what is left of a line, if anything is
abbrev pub parts_left : Option (List ℕ) → List (List ℕ)
parts_left None = []
parts_left (Some text) = parts_of text

-- a line has one part at least
pub some_part : (text : List ℕ) → 1 ≤ length (parts_of text)
some_part text = omega (arith, length-slice_split is_space text)

-- One more word is kept.
pub kept_more : {X : Type 0} (f : X → List ℕ) (ws : List X) (n : ℕ) (x : X) (rest : List (List ℕ)) → n < length ws → map f (take (n + 1) (set ws n x)) ++ rest ≡ map f (take n ws) ++ (f x ∷ rest)
kept_more f ws n x rest l =
    ap (λ ys. map f ys ++ rest) (take_more_set ws n x l) ∙ ap (λ ys. ys ++ rest) (map-append f (take n ws) (x ∷ [])) ∙ append_assoc (map f (take n ws)) (f x ∷ []) rest

pub left_after : {X : Type 0} (f : X → List ℕ) (o : Option X) (w text : List ℕ) → MatchOption o (parts_of text ≡ w ∷ []) (λ r. parts_of text ≡ w ∷ parts_of (f r)) → w ∷ parts_left (option_map f o) ≡ parts_of text
left_after f None w text h = sym h
left_after f (Some r) w text h = sym h

-- one word is taken from what is left
pub words_more : {X : Type 0} (f : X → List ℕ) (ws : List X) (n : ℕ) (x : X) (o p : Option X) (line : List ℕ) (t : X) → n < length ws → map f (take n ws) ++ parts_left (option_map f o) ≡ parts_of line → o ≡ Some t →
    MatchOption p (parts_of (f t) ≡ f x ∷ []) (λ r. parts_of (f t) ≡ f x ∷ parts_of (f r)) →
    map f (take (n + 1) (set ws n x)) ++ parts_left (option_map f p) ≡ parts_of line
words_more f ws n x o p line t l whole is split =
    kept_more f ws n x (parts_left (option_map f p)) l ∙ ap (λ ys. map f (take n ws) ++ ys) (left_after f p (f x) (f t) split)
    ∙ ap (λ q. map f (take n ws) ++ parts_left (option_map f q)) (sym is) ∙ whole

-- There are more words than those that were taken.
pub too_many : {X : Type 0} (f : X → List ℕ) (ws : List X) (n : ℕ) (o : Option X) (line : List ℕ) (t : X) → n ≤ length ws → map f (take n ws) ++ parts_left (option_map f o) ≡ parts_of line → o ≡ Some t → n < length (parts_of line)
too_many f ws n o line t l whole is =
    let e : map f (take n ws) ++ parts_of (f t) ≡ parts_of line = ap (λ q. map f (take n ws) ++ parts_left (option_map f q)) (sym is) ∙ whole in
    let len : length (map f (take n ws) ++ parts_of (f t)) ≡ length (parts_of line) = ap length e in
    omega (arith, length-append (map f (take n ws)) (parts_of (f t)), length-map (take n ws) f, length-take n ws, some_part (f t))

passes_at : {X : Type 0} (p : X → Bool) (xs : List X) (d : X) → position_or_len p xs < length xs → p (get_or xs (position_or_len p xs) d) ≡ true
passes_at p [] d l = absurd (omega arith)
passes_at p (x ∷ xs) d l = elim (cases_Bool (p x)) [
  | inl t ↦ rw t t
  | inr f ↦
      let n = position_or_len p xs in
      let more : position_or_len p (x ∷ xs) ≡ suc n = rw f (omega arith) in
      let below : n < length xs = omega arith in
      ap (λ i. p (get_or (x ∷ xs) i d)) more ∙ passes_at p xs d below
]

-- A list is what stands before the first that passes, that one, and what stands behind.
pub cut_apart : {X : Type 0} (p : X → Bool) (xs : List X) (at : ℕ) (d : X) → position p xs ≡ Some at → (p (get_or xs at d) ≡ true) × (xs ≡ take at xs ++ get_or xs at d ∷ drop (at + 1) xs)
cut_apart p xs at d e =
    let found = position_at p xs at e in
    let below : at < length xs = omega (arith, found.0, found.1) in (
      ap (λ i. p (get_or xs i d)) (sym found.0) ∙ passes_at p xs d found.1,
      sym (take-append-drop at xs) ∙ ap (λ ys. take at xs ++ ys) (rw add-one (drop-cons xs at d below)),
    )

none_len : {X : Type 0} (p : X → Bool) (xs : List X) → list_all (λ x. not (p x)) xs ≡ true → position_or_len p xs ≡ length xs
none_len p [] h = refl
none_len p (x ∷ xs) h =
    let both = and_parts (not (p x)) (list_all (λ y. not (p y)) xs) h in
    rw both.0 (rw (none_len p xs both.1) (omega arith))

-- No element passes.
pub position_none : {X : Type 0} (p : X → Bool) (xs : List X) → list_all (λ x. not (p x)) xs ≡ true → position p xs ≡ None
position_none p xs h = let n = none_len p xs h in rw (le-ltb (position_or_len p xs) (length xs) (omega arith)) refl
