-- The rows after one more entry, and after an entry is taken out.
use Rattle.std.proofs.Common.{◌≤◌, ◌≡◌, ◌≢◌, ◌<◌, ◌+◌, ◌-◌, ℕ, true, false, List, [], ◌∷◌, ◌++◌, Option, Some, None, length, get_or, take, drop, arith, refl, sym, ◌∙◌, ap, subst, inl, inr, zero, suc}
use Rattle.std.specs.Prelude.{◌==◌, if◌then◌else◌}
use Rattle.std.proofs.lemmas.Grind.{common_steps}
use Rattle.std.proofs.lemmas.List.{get_or_past, get_or_default}
use Rattle.std.proofs.lemmas.Bool.{cases_lt}
use Rattle.std.proofs.Math.Seq.{take-append_seam}
use Rattle.k_links.specs.declared.rows.Row.{Row}
use Rattle.k_links.specs.Listed.{IsOnceEach, entry_of, first_number, number_after, number_before, stands, without}
use Rattle.k_links.specs.Links.{IsBelow, IsLinked, empty_row, end_of, last_after, last_number, leads_to, row_at, row_of, with_next, with_prior}
use Rattle.k_links.proofs.Appended.{after_append, before_append, entry_append, first_append, last_append, last_stands, nothing_after, once_append}
use Rattle.k_links.proofs.Counted.{few}
use Rattle.k_links.proofs.Removed.{after_without, before_stands, before_without, entry_without, first_without, last_without, length_without, next_stands, not_after, not_before_first, once_without}

-- A slice that was lent, given back.
pub given_back : {A : Type 0} (len : ℕ) (xs ys : List A) → length xs ≡ len → take len (xs ++ drop (length xs) ys) ≡ xs
given_back len xs ys e = subst (λ (n : ℕ). take n (xs ++ drop (length xs) ys) ≡ xs) e (take-append_seam xs _)

pub below : (m : Option ℕ) (size : ℕ) → ((n : ℕ) → leads_to m n ≡ true → n < size) → IsBelow m size
below None size h = tt
below (Some m) size h = h m (grind arith)

-- rows of no entry, and one more
pub row_added : {E : Type 0} (rows : List (Row E)) (n : ℕ) → ((m : ℕ) → row_at rows m ≡ empty_row) → row_at (rows ++ empty_row ∷ []) n ≡ empty_row
row_added [] zero h = refl
row_added [] (suc n) h = refl
row_added (r ∷ rows) zero h = h 0
row_added (r ∷ rows) (suc n) h = row_added rows n (λ m. h (suc m))

module _ {E : Type 0} (number : E → ℕ) where
  pub nothing_linked : (rows : List (Row E)) → ((n : ℕ) → row_at rows n ≡ empty_row) → IsLinked number rows None None 0 []
  nothing_linked rows h = record { shown = h; first = refl; last = refl; count = refl; once = tt }

  pub standing_entry : (n : ℕ) (es : List E) → stands number n es ≡ true → entry_of number n es ≢ None
  standing_entry n [] s = grind arith
  standing_entry n (f ∷ es) s = grind (arith, common_steps, standing_entry n es)

  pub standing_inside : (rows : List (Row E)) (head tail : Option ℕ) (many : ℕ) (es : List E) → IsLinked number rows head tail many es → (n : ℕ) → stands number n es ≡ true → n < length rows
  standing_inside rows head tail many es l n s = elim (cases_lt n (length rows)) [
    | inl e ↦ e
    | inr past ↦ absurd (standing_entry n es s (sym (ap (λ (r : Row E). r.entry) (l.shown n)) ∙ ap (λ (r : Row E). r.entry) (get_or_past rows n empty_row past)))
  ]

  last_one_stands : (n : ℕ) (es : List E) → leads_to (last_number number es) n ≡ true → stands number n es ≡ true
  last_one_stands n [] l = grind arith
  last_one_stands n (f ∷ es) l = grind (arith, common_steps, last_stands number (number f) n es)

  before_one_stands : (n k : ℕ) (es : List E) → leads_to (number_before number None k es) n ≡ true → stands number n es ≡ true
  before_one_stands n k [] l = grind arith
  before_one_stands n k (f ∷ es) l = grind (arith, common_steps, before_stands number (number f) n k es)

  pub tail_below : (rows : List (Row E)) (head tail : Option ℕ) (many : ℕ) (es : List E) → IsLinked number rows head tail many es → IsBelow tail (length rows)
  tail_below rows head tail many es l = rw l.last (below (last_number number es) (length rows) (λ n s. standing_inside rows head tail many es l n (last_one_stands n es s)))

  pub prior_below : (rows : List (Row E)) (head tail : Option ℕ) (many : ℕ) (es : List E) → IsLinked number rows head tail many es → (k : ℕ) → IsBelow (row_at rows k).prior (length rows)
  prior_below rows head tail many es l k = rw (l.shown k) (below (number_before number None k es) (length rows) (λ n s. standing_inside rows head tail many es l n (before_one_stands n k es s)))

  pub next_below : (rows : List (Row E)) (head tail : Option ℕ) (many : ℕ) (es : List E) → IsLinked number rows head tail many es → (k : ℕ) → IsBelow (row_at rows k).next (length rows)
  next_below rows head tail many es l k = rw (l.shown k) (below (number_after number k es) (length rows) (λ n s. standing_inside rows head tail many es l n (next_stands number n k es s)))

  pub row_append : (n : ℕ) (es : List E) (e : E) → IsOnceEach number es → stands number (number e) es ≡ false → row_of number (es ++ e ∷ []) n ≡ with_next (last_number number es) (Some (number e)) n (if number e == n then record { entry = Some e; prior = last_number number es; next = None } else row_of number es n)
  row_append n es e o s =
      let a : entry_of number n (es ++ e ∷ []) ≡ (if number e == n then Some e else entry_of number n es) = entry_append number n es e s in
      let b : number_before number None n (es ++ e ∷ []) ≡ (if number e == n then last_number number es else number_before number None n es) = before_append number None n es e s in
      let d : number_after number n (es ++ e ∷ []) ≡ (if leads_to (last_number number es) n then Some (number e) else number_after number n es) = after_append number n es e o in
      rw (a, b, d) (grind (arith, nothing_after number n es))

  pub linked_push : (rows more : List (Row E)) (head tail : Option ℕ) (many : ℕ) (es : List E) (e : E) → IsLinked number rows head tail many es → stands number (number e) es ≡ false → ((n : ℕ) → row_at more n ≡ with_next tail (Some (number e)) n (if number e == n then record { entry = Some e; prior = tail; next = None } else row_at rows n)) → IsLinked number more (end_of tail head (Some (number e))) (Some (number e)) (many + 1) (es ++ e ∷ [])
  linked_push rows more head tail many es e l s h = record {
    shown = λ n. rw (h n, l.shown n, l.last) (sym (row_append n es e l.once s));
    first = rw (l.first, l.last) (sym (first_append number es e));
    last = sym (last_append number None es e);
    count = let c : many ≡ length es = l.count in grind (arith, common_steps);
    once = once_append number es e l.once s;
  }

  pub row_without : (n k : ℕ) (es : List E) → IsOnceEach number es → stands number k es ≡ true → row_of number (without number k es) n ≡ with_prior (number_after number k es) (number_before number None k es) n (with_next (number_before number None k es) (number_after number k es) n (if k == n then empty_row else row_of number es n))
  row_without n k es o s =
      let a : entry_of number n (without number k es) ≡ (if k == n then None else entry_of number n es) = entry_without number n k es o in
      let b : number_before number None n (without number k es) ≡ (if k == n then None else if leads_to (number_after number k es) n then number_before number None k es else number_before number None n es) = before_without number None n k es o s in
      let d : number_after number n (without number k es) ≡ (if k == n then None else if leads_to (number_before number None k es) n then number_after number k es else number_after number n es) = after_without number n k es o s in
      rw (a, b, d) (grind (arith, not_after number k es o, not_before_first number k es))

  pub linked_cut : (rows less : List (Row E)) (head tail : Option ℕ) (many : ℕ) (es : List E) (k : ℕ) → IsLinked number rows head tail many es → stands number k es ≡ true → ((n : ℕ) → row_at less n ≡ with_prior (row_at rows k).next (row_at rows k).prior n (with_next (row_at rows k).prior (row_at rows k).next n (if k == n then empty_row else row_at rows n))) → IsLinked number less (end_of (row_at rows k).prior head (row_at rows k).next) (end_of (row_at rows k).next tail (row_at rows k).prior) (many - 1) (without number k es)
  linked_cut rows less head tail many es k l s h = record {
    shown = λ n. rw (h n, l.shown n, l.shown k) (sym (row_without n k es l.once s));
    first = rw (l.first, l.shown k) (sym (first_without number k es s));
    last = rw (l.last, l.shown k) (sym (last_without number None k es l.once s));
    count = let c : many ≡ length es = l.count in omega (arith, length_without number k es s);
    once = once_without number k es l.once;
  }

  pub shown_row : (rows : List (Row E)) (head tail : Option ℕ) (many : ℕ) (es : List E) → IsLinked number rows head tail many es → (n : ℕ) (row : Row E) → stands number n es ≡ true → row ≡ get_or rows n row → row ≡ row_of number es n
  shown_row rows head tail many es l n row s r = r ∙ get_or_default rows n row empty_row (standing_inside rows head tail many es l n s) ∙ l.shown n

  -- ---- one more entry at the front
  before_front : (x n : ℕ) (es : List E) → number_before number (Some x) n es ≡ (if leads_to (first_number number es) n then Some x else number_before number None n es)
  before_front x n [] = refl
  before_front x n (f ∷ es) = grind arith

  last_front : (x : ℕ) (es : List E) → last_after number (Some x) es ≡ end_of (first_number number es) (last_number number es) (Some x)
  last_front x [] = refl
  last_front x (f ∷ es) = refl

  first_stands : (n : ℕ) (es : List E) → leads_to (first_number number es) n ≡ true → stands number n es ≡ true
  first_stands n [] l = grind arith
  first_stands n (f ∷ es) l = grind arith

  pub row_front : (n : ℕ) (es : List E) (e : E) → stands number (number e) es ≡ false → row_of number (e ∷ es) n ≡ with_prior (first_number number es) (Some (number e)) n (if number e == n then record { entry = Some e; prior = None; next = first_number number es } else row_of number es n)
  row_front n es e s =
      let b : number_before number (Some (number e)) n es ≡ (if leads_to (first_number number es) n then Some (number e) else number_before number None n es) = before_front (number e) n es in
      rw b (grind (arith, first_stands n es))

  pub linked_front : (rows more : List (Row E)) (head tail : Option ℕ) (many : ℕ) (es : List E) (e : E) → IsLinked number rows head tail many es → stands number (number e) es ≡ false → ((n : ℕ) → row_at more n ≡ with_prior head (Some (number e)) n (if number e == n then record { entry = Some e; prior = None; next = head } else row_at rows n)) → IsLinked number more (Some (number e)) (end_of head tail (Some (number e))) (many + 1) (e ∷ es)
  linked_front rows more head tail many es e l s h = record {
    shown = λ n. rw (h n, l.shown n, l.first) (sym (row_front n es e s));
    first = refl;
    last = rw (l.first, l.last) (sym (last_front (number e) es));
    count = let c : many ≡ length es = l.count in grind (arith, common_steps);
    once = (s, l.once);
  }

  pub head_below : (rows : List (Row E)) (head tail : Option ℕ) (many : ℕ) (es : List E) → IsLinked number rows head tail many es → IsBelow head (length rows)
  head_below rows head tail many es l = rw l.first (below (first_number number es) (length rows) (λ n s. standing_inside rows head tail many es l n (first_stands n es s)))

  pub linked_few : (rows : List (Row E)) (head tail : Option ℕ) (many : ℕ) (es : List E) → IsLinked number rows head tail many es → many ≤ length rows
  linked_few rows head tail many es l = rw l.count (few number (length rows) es l.once (standing_inside rows head tail many es l))
