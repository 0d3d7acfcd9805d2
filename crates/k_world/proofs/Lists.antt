-- Lists of which one element is changed, or to which one is added.
use Rattle.std.proofs.Common.{◌≡◌, ℕ, zero, suc, Bool, true, false, List, [], ◌∷◌, length, get_or, map, Option, Some, None, refl, sym, ap, ◌∙◌, inl, inr}
use Rattle.std.specs.List.{AllByRecursion, filter, list_any, slice_set}
use Rattle.std.proofs.lemmas.Bool.{cases_eq, cases_lt, cases_Bool}
use Rattle.std.proofs.lemmas.List.{get_or-set_other, get_or-set_same, set_past}

-- what holds of the old element and of the new one, at each place
pub set_keeps : {X : Type 0} (P : X → X → Type 0) → ((x : X) → P x x) → (xs : List X) (i : ℕ) (y d : X) → P (get_or xs i d) y → (j : ℕ) → P (get_or xs j d) (get_or (slice_set xs i y) j d)
set_keeps P r xs i y d h j = elim (cases_eq j i) [
  | inl e ↦ elim (cases_lt i (length xs)) [
    | inl l ↦ rw e (rw (get_or-set_same xs i y d l) h)
    | inr g ↦ rw (set_past xs i y g) (r (get_or xs j d))
  ]
  | inr n ↦ rw (get_or-set_other xs i j y d n) (r (get_or xs j d))
]

-- what is there after nothing was put there
pub fewer_set : {X : Type 0} (xs : List (Option X)) (i j : ℕ) (k : X) → get_or (slice_set xs i None) j None ≡ Some k → get_or xs j None ≡ Some k
fewer_set xs i j k h = elim (cases_eq j i) [
  | inl e ↦ elim (cases_lt i (length xs)) [
    | inl l ↦ let no : None ≡ Some k = sym (get_or-set_same xs i None None l) ∙ (ap (λ n. get_or (slice_set xs i None) n None) (sym e) ∙ h) in absurd cc
    | inr g ↦ sym (ap (λ ys. get_or ys j None) (set_past xs i None g)) ∙ h
  ]
  | inr n ↦ sym (get_or-set_other xs i j None None n) ∙ h
]

-- a function that leaves nothing as it is
pub mapped_at : {X : Type 0} (f : Option X → Option X) → f None ≡ None → (xs : List (Option X)) (i : ℕ) → get_or (map f xs) i None ≡ f (get_or xs i None)
mapped_at f e [] i = sym e
mapped_at f e (x ∷ xs) zero = refl
mapped_at f e (x ∷ xs) (suc i) = mapped_at f e xs i

-- none passes the test
pub none_passes : {X : Type 0} (p : X → Bool) (xs : List X) → filter p xs ≡ [] → AllByRecursion (λ x. p x ≡ false) xs
none_passes p [] h = tt
none_passes p (x ∷ xs) h = elim (cases_Bool (p x)) [
  | inl t ↦ let no : x ∷ filter p xs ≡ [] = sym (rw t refl) ∙ h in absurd cc
  | inr f ↦ (f, none_passes p xs (sym (rw f refl) ∙ h))
]

pub any_none : {X : Type 0} (p : X → Bool) (xs : List X) → list_any p xs ≡ false → AllByRecursion (λ x. p x ≡ false) xs
any_none p [] h = tt
any_none p (x ∷ xs) h = elim (cases_Bool (p x)) [
  | inl t ↦ let no : true ≡ false = sym (rw t refl) ∙ h in absurd cc
  | inr f ↦ (f, any_none p xs (sym (rw f refl) ∙ h))
]
