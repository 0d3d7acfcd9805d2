-- Lists that are cut at the first element that passes a test.
use Rattle.std.proofs.Common.{◌≡◌, ℕ, ◌+◌, ◌-◌, ◌≤◌, Bool, List, [], ◌∷◌, length, take, drop, refl, sym, ap, ◌∙◌, arith, Some, None, position, inl, inr}
use Rattle.std.specs.List.{slice_split, before_first, position_or_len}
use Rattle.std.proofs.lemmas.List.Splits.{slice_split_first}
use Rattle.std.proofs.lemmas.Bool.{cases_Bool, cases_lt, lt-ltb}
use Rattle.std.proofs.lemmas.List.{length-drop, take_all}
use Rattle.k_lists.proofs.Positions.{position_at}

split_whole : {X : Type 0} (p : X → Bool) (xs : List X) → length xs ≤ position_or_len p xs → slice_split p xs ≡ xs ∷ []
split_whole p [] h = refl
split_whole p (x ∷ xs) h = elim (cases_Bool (p x)) [
  | inl t ↦ let zeroed : position_or_len p (x ∷ xs) ≡ 0 = rw t refl in absurd (omega arith)
  | inr f ↦
      let more : position_or_len p (x ∷ xs) ≡ 1 + position_or_len p xs = rw f refl in
      rw f (rw (split_whole p xs (omega arith)) refl)
]

-- no element passes
pub cut_none : {X : Type 0} (p : X → Bool) (xs : List X) → position p xs ≡ None → slice_split p xs ≡ xs ∷ []
cut_none p xs e = elim (cases_lt (position_or_len p xs) (length xs)) [
  | inl l ↦ let no : Some (position_or_len p xs) ≡ None = sym (rw (lt-ltb _ _ l) refl) ∙ e in absurd cc
  | inr g ↦ split_whole p xs g
]

-- what a slice's range gives behind a place
pub rest_at : {X : Type 0} (xs : List X) (i : ℕ) → take (length xs - i) (drop i xs) ≡ drop i xs
rest_at xs i = take_all (length xs - i) (drop i xs) (omega (arith, length-drop i xs))

-- the parts before and behind the first that passes
pub cut_some : {X : Type 0} (p : X → Bool) (xs : List X) (at : ℕ) (d : X) → position p xs ≡ Some at → slice_split p xs ≡ take at xs ∷ slice_split p (take (length xs - (at + 1)) (drop (at + 1) xs))
cut_some p xs at d e =
    let found = position_at p xs at e in
    rw (rest_at xs (at + 1)) (slice_split_first p xs d found.1 ∙ rw found.0 refl)

pub before_none : {X : Type 0} (p : X → Bool) (xs : List X) → position p xs ≡ None → before_first p xs ≡ xs
before_none p xs e = elim (cases_lt (position_or_len p xs) (length xs)) [
  | inl l ↦ let no : Some (position_or_len p xs) ≡ None = sym (rw (lt-ltb _ _ l) refl) ∙ e in absurd cc
  | inr g ↦ take_all (position_or_len p xs) xs g
]

pub before_some : {X : Type 0} (p : X → Bool) (xs : List X) (at : ℕ) → position p xs ≡ Some at → before_first p xs ≡ take at xs
before_some p xs at e = ap (λ (n : ℕ). take n xs) (position_at p xs at e).0
