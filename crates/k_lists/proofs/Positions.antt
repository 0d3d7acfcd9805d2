-- The first element of a list that passes a test.
use Rattle.std.proofs.Common.{◌≡◌, ℕ, suc, ◌+◌, ◌<◌, ◌≤◌, Bool, true, false, leb, List, [], ◌∷◌, ◌++◌, length, map, remove, refl, sym, ap, ◌∙◌, arith, Some, None, position, inl, inr}
use Rattle.std.specs.List.{AllByRecursion, position_or_len}
use Rattle.std.specs.Option.{option_map}
use Rattle.std.proofs.lemmas.Bool.{cases_Bool, cases_lt, lt-ltb, le-ltb}
use Rattle.std.proofs.lemmas.Bool.Decides.{nat_tests}
use Rattle.std.proofs.lemmas.List.{length-map}
use Rattle.std.proofs.Math.Numerals.{one-add}

-- the head passes, or not
pub position_yes : {X : Type 0} (p : X → Bool) (x : X) (xs : List X) → p x ≡ true → position p (x ∷ xs) ≡ Some 0
position_yes p x xs h = let some : leb 1 (suc (length xs)) ≡ true = grind (arith, nat_tests) in rw h (rw some refl)

pub position_no : {X : Type 0} (p : X → Bool) (x : X) (xs : List X) → p x ≡ false → position p (x ∷ xs) ≡ option_map suc (position p xs)
position_no p x xs h =
    let q = position_or_len p xs in
    elim (cases_Bool (leb (suc q) (length xs))) [
      | inl e ↦ let f : leb (suc (1 + q)) (suc (length xs)) ≡ true = grind (arith, nat_tests) in rw h (rw (f, e) (ap Some (one-add q)))
      | inr e ↦ let f : leb (suc (1 + q)) (suc (length xs)) ≡ false = grind (arith, nat_tests) in rw h (rw (f, e) refl)
    ]

-- Where one is found, the search without a bound stops there.
pub position_at : {X : Type 0} (p : X → Bool) (xs : List X) (at : ℕ) → position p xs ≡ Some at → (position_or_len p xs ≡ at) × (position_or_len p xs < length xs)
position_at p xs at e = elim (cases_lt (position_or_len p xs) (length xs)) [
  | inl l ↦ let both : Some (position_or_len p xs) ≡ Some at = sym (rw (lt-ltb _ _ l) refl) ∙ e in (cc, l)
  | inr g ↦ let no : None ≡ Some at = sym (rw (le-ltb _ _ g) refl) ∙ e in absurd cc
]

none_passes : {X : Type 0} (p : X → Bool) (xs : List X) → length xs ≤ position_or_len p xs → AllByRecursion (λ x. p x ≡ false) xs
none_passes p [] h = tt
none_passes p (x ∷ xs) h = elim (cases_Bool (p x)) [
  | inl t ↦ let zeroed : position_or_len p (x ∷ xs) ≡ 0 = rw t refl in absurd (omega arith)
  | inr f ↦ let more : position_or_len p (x ∷ xs) ≡ 1 + position_or_len p xs = rw f refl in (f, none_passes p xs (omega arith))
]

-- where none is found, none passes
pub absent_passes : {X : Type 0} (p : X → Bool) (xs : List X) → position p xs ≡ None → AllByRecursion (λ x. p x ≡ false) xs
absent_passes p xs e = elim (cases_lt (position_or_len p xs) (length xs)) [
  | inl l ↦ let no : Some (position_or_len p xs) ≡ None = sym (rw (lt-ltb _ _ l) refl) ∙ e in absurd cc
  | inr g ↦ none_passes p xs g
]

-- .. and where none passes, none is found
pub absent_found : {X : Type 0} (p : X → Bool) (xs : List X) → AllByRecursion (λ x. p x ≡ false) xs → position p xs ≡ None
absent_found p [] h = refl
absent_found p (x ∷ xs) h = position_no p x xs h.0 ∙ ap (option_map suc) (absent_found p xs h.1)

-- the first that passes, behind those that don't
pub position_behind : {X : Type 0} (p : X → Bool) (xs : List X) (y : X) (ys : List X) → AllByRecursion (λ x. p x ≡ false) xs → p y ≡ true → position p (xs ++ y ∷ ys) ≡ Some (length xs)
position_behind p [] y ys h t = position_yes p y ys t
position_behind p (x ∷ xs) y ys h t = position_no p x (xs ++ y ∷ ys) h.0 ∙ ap (option_map suc) (position_behind p xs y ys h.1 t)

-- what is left without it
pub remove_behind : {X : Type 0} (xs : List X) (y : X) (ys : List X) → remove (xs ++ y ∷ ys) (length xs) ≡ xs ++ ys
remove_behind [] y ys = refl
remove_behind (x ∷ xs) y ys = ap (λ (zs : List _). x ∷ zs) (remove_behind xs y ys)

-- The place doesn't depend on a map before the test.
position_or_len_map : {X Y : Type 0} (f : X → Y) (p : Y → Bool) (xs : List X) → position_or_len p (map f xs) ≡ position_or_len (λ x. p (f x)) xs
position_or_len_map f p [] = refl
position_or_len_map f p (x ∷ xs) = rw (position_or_len_map f p xs) refl

pub position_map : {X Y : Type 0} (f : X → Y) (p : Y → Bool) (xs : List X) → position p (map f xs) ≡ position (λ x. p (f x)) xs
position_map f p xs = rw (position_or_len_map f p xs) (rw (length-map xs f) refl)
