-- The highest thread as a function is the first of the highest list that isn't empty.
use Rattle.std.proofs.Common.{◌≡◌, ◌<◌, ◌≤◌, ℕ, zero, suc, Option, Some, None, List, [], ◌∷◌, length, arith, refl, ◌∙◌, ap, subst, inl, inr}
use Rattle.std.specs.Prelude.{◌↔◌}
use Rattle.std.proofs.lemmas.Bool.{cases_eq, cases_lt}
use Rattle.std.proofs.lemmas.List.{get_or_past}
use Rattle.k_ids.specs.declared.threads.ThreadId.{ThreadId}
use Rattle.k_ready.specs.Lists.{Ready, first_of, list_of}
use Rattle.k_ready.specs.Popped.{IsHighest, Level, first_or, highest, highest_below}

first_is : (es : List ThreadId) (id : ThreadId) (p : ℕ) (lower : Option Level) → first_of es ≡ Some id → first_or es p lower ≡ Some record { id = id; priority = p }
first_is [] id p lower e = absurd cc
first_is (x ∷ es) id p lower e = let same : x ≡ id = cc in ap (λ (i : ThreadId). Some record { id = i; priority = p }) same

none_first : (es : List ThreadId) (p : ℕ) (lower : Option Level) → es ≡ [] → first_or es p lower ≡ lower
none_first [] p lower e = refl
none_first (x ∷ es) p lower e = absurd cc

pub highest_from : (n : ℕ) (lists : List (List ThreadId)) (id : ThreadId) (p : ℕ) → p < n → ((q : ℕ) → p < q → q < n → list_of lists q ≡ []) → first_of (list_of lists p) ≡ Some id → highest_below n lists ≡ Some record { id = id; priority = p }
unfolding highest_below
highest_from zero lists id p below above first = absurd (omega arith)
highest_from (suc n) lists id p below above first = elim (cases_eq p n) [
  | inl e ↦ subst (λ (m : ℕ). first_or (list_of lists m) m (highest_below m lists) ≡ Some record { id = id; priority = p }) e (first_is (list_of lists p) id p (highest_below p lists) first)
  | inr ne ↦ none_first (list_of lists n) n (highest_below n lists) (above n (omega (arith, below, ne)) (omega arith)) ∙ highest_from n lists id p (omega (arith, below, ne)) (λ q a b. above q a (omega (arith, b))) first
]

pub none_from : (n : ℕ) (lists : List (List ThreadId)) → ((q : ℕ) → q < n → list_of lists q ≡ []) → highest_below n lists ≡ None
unfolding highest_below
none_from zero lists empty = refl
none_from (suc n) lists empty = none_first (list_of lists n) n (highest_below n lists) (empty n (omega arith)) ∙ none_from n lists (λ q l. empty q (omega (arith, l)))

-- what is found below a priority is the first of its list, and the lists above are empty
IsFound : ℕ → List (List ThreadId) → Level → Type 0
IsFound n lists l = (l.priority < n) × (first_of (list_of lists l.priority) ≡ Some l.id) × ((q : ℕ) → l.priority < q → q < n → list_of lists q ≡ [])

found_one : (n : ℕ) (lists : List (List ThreadId)) (l : Level) (es : List ThreadId) → list_of lists n ≡ es → first_or es n (highest_below n lists) ≡ Some l → (highest_below n lists ≡ Some l → IsFound n lists l) → IsFound (suc n) lists l
unfolding IsFound
found_one n lists l [] empty e rec =
    let h = rec e in (
      omega (arith, h.0),
      h.1,
      λ q a b. elim (cases_lt q n) [
        | inl i ↦ h.2 q a i
        | inr past ↦ let same : q ≡ n = omega arith in ap (list_of lists) same ∙ empty
      ],
    )
found_one n lists l (f ∷ es) full e rec =
    let same : record { id = f; priority = n } ≡ l = cc in
    subst (λ (k : Level). (k.priority < suc n) × (first_of (list_of lists k.priority) ≡ Some k.id) × ((q : ℕ) → k.priority < q → q < suc n → list_of lists q ≡ [])) same
    (omega arith, ap first_of full, λ q a b. absurd (omega arith))

found_below : (n : ℕ) (lists : List (List ThreadId)) (l : Level) → highest_below n lists ≡ Some l → IsFound n lists l
unfolding highest_below
found_below zero lists l e = absurd cc
found_below (suc n) lists l e = found_one n lists l (list_of lists n) refl e (found_below n lists l)

past_all : (lists : List (List ThreadId)) (p : ℕ) → length lists ≡ 64 → 64 ≤ p → list_of lists p ≡ []
past_all lists p size past = get_or_past lists p [] (omega (arith, size))

pub highest_first : (r : Ready) (l : Level) → length r.lists ≡ 64 → (highest r ≡ Some l) ↔ IsHighest r l
unfolding IsFound
highest_first r l size = (
  λ e. let h = found_below 64 r.lists l e in record {
    inside = h.0;
    above = λ p a. elim (cases_lt p 64) [ inl i ↦ h.2 p a i | inr past ↦ past_all r.lists p size past ];
    first = h.1;
  },
  λ h. highest_from 64 r.lists l.id l.priority h.inside (λ q a b. h.above q a) h.first,
)

nothing_one : (n : ℕ) (lists : List (List ThreadId)) (es : List ThreadId) → list_of lists n ≡ es → first_or es n (highest_below n lists) ≡ None → (q : ℕ) → q < suc n → (highest_below n lists ≡ None → q < n → list_of lists q ≡ []) → list_of lists q ≡ []
nothing_one n lists [] empty e q l rec = elim (cases_lt q n) [
  | inl i ↦ rec e i
  | inr past ↦ let same : q ≡ n = omega arith in ap (list_of lists) same ∙ empty
]
nothing_one n lists (f ∷ es) full e q l rec = absurd cc

nothing_below : (n : ℕ) (lists : List (List ThreadId)) → highest_below n lists ≡ None → (q : ℕ) → q < n → list_of lists q ≡ []
unfolding highest_below
nothing_below zero lists e q l = absurd (omega arith)
nothing_below (suc n) lists e q l = nothing_one n lists (list_of lists n) refl e q l (λ e' l'. nothing_below n lists e' q l')

pub highest_none : (r : Ready) → length r.lists ≡ 64 → (highest r ≡ None) ↔ ((priority : ℕ) → list_of r.lists priority ≡ [])
highest_none r size = (
  λ e p. elim (cases_lt p 64) [ inl i ↦ nothing_below 64 r.lists e p i | inr past ↦ past_all r.lists p size past ],
  λ h. none_from 64 r.lists (λ q l. h q),
)
