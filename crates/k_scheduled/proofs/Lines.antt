-- How often the lines of a schedule start a thread, and which threads are due.
use Rattle.std.proofs.Common.{◌≡◌, ◌≢◌, ℕ, ◌+◌, ◌≤◌, ◌==◌, Bool, true, false, List, [], ◌∷◌, ◌++◌, length, refl, sym}
use Rattle.std.proofs.Common.{ap, ◌∙◌, subst, map, arith, inl, inr}
use Rattle.std.specs.Prelude.{◌||◌, slice_index_or, slice_set}
use Rattle.std.specs.List.{AllByRecursion, IsDistinct, count_by, list_any, range_with_len}
use Rattle.std.proofs.lemmas.Bool.{cases_Bool, cases_eq, cases_lt, eq-eqb, false≢true, ne_eqb}
use Rattle.std.proofs.lemmas.List.{get_or-set_other, get_or-set_same, get_or_past, length-set}
use Rattle.std.proofs.lemmas.List.FromFn.{get_or-map-range_with_len, length-map-range_with_len}
use Rattle.std.proofs.lemmas.List.Sums.{sum_by-cons}
use Rattle.k_script.specs.declared.lines.AtLine.{AtLine}
use Rattle.k_script.specs.declared.lines.AtWhat.{AtWhat}
use Rattle.k_script.specs.declared.lines.AtWhat.TheVariants as what
use Rattle.k_script.specs.Limits.{IsAtLine, IsEvent, started, started_by}
use Rattle.k_tokens.specs.Maps.{one_if}

abbrev times : ℕ → List ℕ → ℕ
times n xs = count_by (λ x. x == n) xs

abbrev stands_in : ℕ → List ℕ → Bool
stands_in n xs = list_any (λ x. x == n) xs

times-cons : (n x : ℕ) (xs : List ℕ) → times n (x ∷ xs) ≡ one_if (x == n) + times n xs
times-cons n x xs = sum_by-cons (λ (y : ℕ). one_if (y == n)) x xs

-- ONE LIST

times_same : (n : ℕ) (xs : List ℕ) → times n (n ∷ xs) ≡ 1 + times n xs
times_same n xs = times-cons n n xs ∙ ap (λ (t : Bool). one_if t + times n xs) (eq-eqb n n refl)

times_other : (n x : ℕ) (xs : List ℕ) → x ≢ n → times n (x ∷ xs) ≡ times n xs
times_other n x xs ne = times-cons n x xs ∙ (ap (λ (t : Bool). one_if t + times n xs) (ne_eqb x n ne) ∙ omega arith)

times_nowhere : (n : ℕ) (xs : List ℕ) → AllByRecursion (λ y. (n == y) ≡ false) xs → times n xs ≡ 0
times_nowhere n [] h = refl
times_nowhere n (x ∷ xs) h = times_other n x xs (λ e. false≢true (sym h.0 ∙ eq-eqb n x (sym e))) ∙ times_nowhere n xs h.1

-- who stands in no list twice stands in it once, or never
times_once : (n : ℕ) (xs : List ℕ) → IsDistinct (λ a b. a == b) xs → times n xs ≡ one_if (stands_in n xs)
unfolding IsDistinct
times_once n [] h = refl
times_once n (x ∷ xs) h = elim (cases_eq x n) [
  | inl e ↦ subst (λ (y : ℕ). AllByRecursion (λ z. (y == z) ≡ false) xs → times n (y ∷ xs) ≡ one_if ((y == n) || stands_in n xs))
      (sym e) here h.0
  | inr ne ↦ times_other n x xs ne ∙ (times_once n xs h.1
      ∙ ap (λ (t : Bool). one_if (t || stands_in n xs)) (sym (ne_eqb x n ne)))
]
  where
    here : AllByRecursion (λ z. (n == z) ≡ false) xs → times n (n ∷ xs) ≡ one_if ((n == n) || stands_in n xs)
    here apart = times_same n xs ∙ (ap (λ (k : ℕ). 1 + k) (times_nowhere n xs apart)
        ∙ ap (λ (t : Bool). one_if (t || stands_in n xs)) (sym (eq-eqb n n refl)))

-- WHO IS DUE

abbrev due : List Bool → ℕ → Bool
due starts n = slice_index_or starts n false

cleared_same : (starts : List Bool) (n : ℕ) → due (slice_set starts n false) n ≡ false
cleared_same starts n = elim (cases_lt n (length starts)) [
  | inl l ↦ get_or-set_same starts n false false l
  | inr l ↦ get_or_past (slice_set starts n false) n false (omega (arith, l, length-set starts n false))
]

-- Each number in the list is due, once.
abbrev pub AreDue : List Bool → List ℕ → Type 0
AreDue starts xs = (n : ℕ) → times n xs ≡ one_if (due starts n)

pub first_due : (starts : List Bool) (number : ℕ) (xs : List ℕ) → AreDue starts (number ∷ xs) → due starts number ≡ true
first_due starts number xs h = elim (cases_Bool (due starts number)) [
  | inl t ↦ t
  | inr f ↦ absurd (omega (arith, sym (times_same number xs) ∙ (h number ∙ ap one_if f)))
]

pub rest_due : (starts : List Bool) (number : ℕ) (xs : List ℕ) → AreDue starts (number ∷ xs) →
    AreDue (slice_set starts number false) xs
rest_due starts number xs h n = elim (cases_eq n number) [
  | inl e ↦ subst (λ (m : ℕ). times m xs ≡ one_if (due (slice_set starts number false) m)) (sym e) here
  | inr ne ↦ sym (times_other n number xs (λ e. ne (sym e))) ∙ (h n
      ∙ ap one_if (sym (get_or-set_other starts number n false false ne)))
]
  where
    none : times number xs ≡ 0
    none = omega (arith, sym (times_same number xs) ∙ (h number ∙ ap one_if (first_due starts number xs h)))

    here : times number xs ≡ one_if (due (slice_set starts number false) number)
    here = none ∙ ap one_if (sym (cleared_same starts number))

pub nobody_due : (starts : List Bool) (n : ℕ) → AreDue starts [] → due starts n ≡ false
nobody_due starts n h = elim (cases_Bool (due starts n)) [
  | inl t ↦ absurd (omega (arith, h n ∙ ap one_if t))
  | inr f ↦ f
]

-- THE LINES OF A SCRIPT

nobody_past : (carriers threads n : ℕ) (lines : List AtLine) → AllByRecursion (IsAtLine carriers threads) lines → threads ≤ n →
    stands_in n (started lines) ≡ false
nobody_past carriers threads n [] h l = refl
nobody_past carriers threads n (a ∷ lines) h l = by a.what h.0.event (nobody_past carriers threads n lines h.1 l)
  where
    by : (x : AtWhat) → IsEvent carriers threads x → stands_in n (started lines) ≡ false →
        stands_in n (started_by x ++ started lines) ≡ false
    by (what.Start number) e nobody =
        ap (λ (t : Bool). t || stands_in n (started lines)) (ne_eqb number n (λ q. omega (arith, q, e, l))) ∙ nobody
    by (what.Slice carrier) e nobody = nobody

pub all_due : (carriers threads table : ℕ) (lines : List AtLine) → AllByRecursion (IsAtLine carriers threads) lines →
    IsDistinct (λ a b. a == b) (started lines) → threads ≤ table →
    AreDue (map (λ n. stands_in n (started lines)) (range_with_len 0 table)) (started lines)
all_due carriers threads table lines h once few n = elim (cases_lt n table) [
  | inl l ↦ times_once n (started lines) once
      ∙ ap one_if (sym (get_or-map-range_with_len (λ n. stands_in n (started lines)) 0 table n n false l (omega arith)))
  | inr l ↦ times_once n (started lines) once
      ∙ (ap one_if (nobody_past carriers threads n lines h (omega (arith, few, l)))
      ∙ ap one_if (sym (get_or_past (map (λ n. stands_in n (started lines)) (range_with_len 0 table)) n false
      (omega (arith, l, length-map-range_with_len (λ n. stands_in n (started lines)) 0 table)))))
]
