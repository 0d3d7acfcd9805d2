-- The lines that are made are the calls of the marks, and a list of calls is the only one.
use Rattle.std.proofs.Common.{◌≡◌, ℕ, zero, suc, ◌+◌, ◌<◌, ◌≤◌, true, false, List, [], ◌∷◌, ◌++◌, length, get_or, refl, sym, subst, ap, ◌∙◌, arith, inl, inr, zero-add, Result, Ok, Err}
use Rattle.std.specs.Prelude.{IfOk}
use Rattle.std.specs.List.{AllByRecursion, count_by, filter, fold, slice_set}
use Rattle.std.specs.List.Sorted.{IsPermutation, IsSorted, IsStrictlySortedBy}
use Rattle.std.specs.declared.cmp.Ordering.{Ordering}
use Rattle.std.specs.declared.cmp.Ordering.TheVariants.{Less, Equal, Greater}
use Rattle.std.specs.Ordering.{ordering_reverse}
use Rattle.std.proofs.lemmas.Bool.{and_from, cases_Bool, eq-eqb}
use Rattle.std.proofs.lemmas.List.Elements.{All-from_recursion, recursion_from_All}
use Rattle.std.proofs.lemmas.List.Sorted.{All-permutation}
use Rattle.k_lists.proofs.All.{all_weaker}
use Rattle.k_ids.specs.declared.threads.ThreadId.{ThreadId}
use Rattle.k_context.specs.declared.owner.Owner.{Owner}
use Rattle.k_context.specs.declared.owner.Owner.TheVariants as owner
use Rattle.k_carrier.specs.declared.marks.StepMark.{StepMark}
use Rattle.k_world.specs.Marks.{capped}
use Rattle.k_calls.specs.declared.lines.CallLine.{CallLine}
use Rattle.k_calls.specs.Calls.{IsCalls, call_order, is_helped, is_of, line_of, marks_of}
use Rattle.k_calls.specs.Counting.{added, both, counted, counted_for, same_call, step_line}
use Rattle.k_calls.proofs.Ordered.{IsFor, all_added, all_folded, call_total, equal_for, is_for, joined_strict, same_from_equal}
use Rattle.k_calls.proofs.Totals.{helped_counted, steps_counted, total, total_folded, total_moved}

-- HOW A LINE IS ADDED

pub put_last : (xs : List CallLine) (line x : CallLine) (i : ℕ) → i + 1 ≡ length xs → x ≡ get_or xs i x → same_call x line ≡ true → slice_set xs i (both x line) ≡ added xs line
put_last [] line x i l e h = absurd (omega arith)
put_last (last ∷ []) line x zero l e h = rw (← e) (rw h refl)
put_last (last ∷ []) line x (suc i) l e h = absurd (omega arith)
put_last (a ∷ b ∷ rest) line x zero l e h = absurd (omega arith)
put_last (a ∷ b ∷ rest) line x (suc i) l e h = ap (λ (t : List CallLine). a ∷ t) (put_last (b ∷ rest) line x i (omega arith) e h)

pub put_new : (xs : List CallLine) (line x : CallLine) (i : ℕ) → i + 1 ≡ length xs → x ≡ get_or xs i x → same_call x line ≡ false → xs ++ line ∷ [] ≡ added xs line
put_new [] line x i l e h = absurd (omega arith)
put_new (last ∷ []) line x zero l e h = let other : same_call last line ≡ false = sym (ap (λ (y : CallLine). same_call y line) e) ∙ h in rw other refl
put_new (last ∷ []) line x (suc i) l e h = absurd (omega arith)
put_new (a ∷ b ∷ rest) line x zero l e h = absurd (omega arith)
put_new (a ∷ b ∷ rest) line x (suc i) l e h = ap (λ (t : List CallLine). a ∷ t) (put_new (b ∷ rest) line x i (omega arith) e h)

pub put_first : (xs : List CallLine) (line : CallLine) → length xs ≡ 0 → xs ++ line ∷ [] ≡ added xs line
put_first [] line l = refl
put_first (a ∷ xs) line l = absurd (omega arith)

-- COUNTS OF A LINE: some steps, and no more than the type has

pub record IsCounted (line : CallLine) : Type 0 where
  pub some : 0 < line.steps
  pub steps : line.steps ≤ 4294967295
  pub helped : line.helped ≤ 4294967295

both_counted : (a b : CallLine) → IsCounted a → IsCounted (both a b)
both_counted a b h = record { some = omega (arith, h.some); steps = omega arith; helped = omega arith }

step_counted : (id : ThreadId) (m : StepMark) → IsCounted (step_line id m)
step_counted id m = record {
  some = omega arith;
  steps = omega arith;
  helped = elim (cases_Bool (is_helped m)) [ inl t ↦ rw t (omega arith) | inr n ↦ rw n (omega arith) ];
}

mark_counted : (acc : List CallLine) (m : StepMark) (o : Owner) → AllByRecursion IsCounted acc → AllByRecursion IsCounted (counted_for o acc m)
mark_counted acc m (owner.Thread a) h = all_added IsCounted both_counted acc (step_line a m) h (step_counted a m)
mark_counted acc m (owner.Carrier c) h = h

marks_counted : (ms : List StepMark) (acc : List CallLine) → AllByRecursion IsCounted acc → AllByRecursion IsCounted (fold counted acc ms)
marks_counted [] acc h = h
marks_counted (m ∷ ms) acc h = marks_counted ms (counted acc m) (mark_counted acc m m.owner h)

-- ONE LINE OF A CALL

-- Behind a line of a call there is none of it.
other_behind : (id : ThreadId) (serial : ℕ) (x y : CallLine) → call_order x y ≡ Less → is_of id serial x ≡ true → is_of id serial y ≡ false
other_behind id serial x y h t = elim (cases_Bool (is_of id serial y)) [
  | inl u ↦ let no : Less ≡ Equal = sym h ∙ equal_for id serial x y t u in absurd cc
  | inr n ↦ n
]

none_behind : (id : ThreadId) (serial : ℕ) (x : CallLine) (xs : List CallLine) → AllByRecursion (λ y. call_order x y ≡ Less) xs → is_of id serial x ≡ true → filter (is_of id serial) xs ≡ []
none_behind id serial x [] h t = refl
none_behind id serial x (y ∷ ys) h t = rw (other_behind id serial x y h.0 t) (none_behind id serial x ys h.1 t)

no_total : (f : CallLine → ℕ) (id : ThreadId) (serial : ℕ) (x : CallLine) (xs : List CallLine) → AllByRecursion (λ y. call_order x y ≡ Less) xs → is_of id serial x ≡ true → total f id serial xs ≡ 0
no_total f id serial x [] h t = refl
no_total f id serial x (y ∷ ys) h t = rw (other_behind id serial x y h.0 t) (omega (arith, no_total f id serial x ys h.1 t))

line_is : (id : ThreadId) (serial : ℕ) (line : CallLine) (n : ℕ) → line.steps ≡ n → 0 < n → IsFor id serial line → line ∷ [] ≡ line_of id serial n line.helped
line_is id serial line zero e l h = absurd (omega arith)
line_is id serial line (suc n) e l h = ap (λ (x : CallLine). x ∷ []) (made h.caller h.call e)
  where
    made : line.id ≡ id → line.serial ≡ serial → line.steps ≡ suc n → line ≡ record { id = id; serial = serial; steps = suc n; helped = line.helped }
    made a b c = ap (λ (i : ThreadId). record line { id = i }) a ∙ ap (λ (s : ℕ). record line { id = id; serial = s }) b ∙ ap (λ (m : ℕ). record line { id = id; serial = serial; steps = m }) c

within : (n m : ℕ) → n ≤ 4294967295 → m ≡ 0 → capped (n + m) ≡ n
within n m l e = omega arith

pub one_line : (id : ThreadId) (serial : ℕ) (xs : List CallLine) → IsStrictlySortedBy call_order xs → AllByRecursion IsCounted xs → filter (is_of id serial) xs ≡ line_of id serial (capped (total (λ l. l.steps) id serial xs)) (capped (total (λ l. l.helped) id serial xs))
unfolding IsStrictlySortedBy
one_line id serial [] s h = refl
one_line id serial (x ∷ xs) s h = elim (cases_Bool (is_of id serial x)) [
  | inl t ↦
      let counts : IsCounted x = h.0 in
      let steps : capped (x.steps + total (λ l. l.steps) id serial xs) ≡ x.steps = within x.steps _ counts.steps (no_total (λ l. l.steps) id serial x xs s.0 t) in
      let helped : capped (x.helped + total (λ l. l.helped) id serial xs) ≡ x.helped = within x.helped _ counts.helped (no_total (λ l. l.helped) id serial x xs s.0 t) in
      rw t (rw steps (rw helped (ap (λ (ys : List CallLine). x ∷ ys) (none_behind id serial x xs s.0 t) ∙ line_is id serial x x.steps refl counts.some (is_for id serial x t))))
  | inr n ↦ rw n (rw (zero-add (total (λ l. l.steps) id serial xs)) (rw (zero-add (total (λ l. l.helped) id serial xs)) (one_line id serial xs s.1 h.1)))
]

-- THE CALLS

pub calls_told : (marks : List StepMark) (sorted : List CallLine) → IsPermutation (fold counted [] marks) sorted → IsSorted call_order sorted → IsCalls marks (fold added [] sorted)
calls_told marks sorted moved ordered =
    let all : AllByRecursion IsCounted (fold counted [] marks) = marks_counted marks [] tt in
    let still : AllByRecursion IsCounted sorted = recursion_from_All IsCounted sorted (All-permutation IsCounted _ sorted moved (All-from_recursion IsCounted (fold counted [] marks) all)) in
    let strict = joined_strict sorted ordered in
    let lines : AllByRecursion IsCounted (fold added [] sorted) = all_folded IsCounted both_counted sorted [] tt still in
    record {
      told = λ id serial.
          let steps : capped (total (λ l. l.steps) id serial (fold added [] sorted)) ≡ capped (length (marks_of id serial marks)) =
          total_folded (λ l. l.steps) (λ a b. refl) id serial sorted [] ∙ ap capped (omega (arith, total_moved (λ l. l.steps) id serial _ sorted moved)) ∙ steps_counted id serial marks in
          let helped : capped (total (λ l. l.helped) id serial (fold added [] sorted)) ≡ capped (count_by is_helped (marks_of id serial marks)) =
          total_folded (λ l. l.helped) (λ a b. refl) id serial sorted [] ∙ ap capped (omega (arith, total_moved (λ l. l.helped) id serial _ sorted moved)) ∙ helped_counted id serial marks in
          one_line id serial (fold added [] sorted) strict lines ∙ ap (λ (n : ℕ). line_of id serial n (capped (total (λ l. l.helped) id serial (fold added [] sorted)))) steps ∙ ap (line_of id serial (capped (length (marks_of id serial marks)))) helped;
      ordered = strict;
    }

-- of the lines that are made, if there was memory for them
pub calls_if : {T E : Type 0} (items : T → List CallLine) (marks : List StepMark) (r : Result T E) (sorted : List CallLine) → IfOk r (λ v. items v ≡ fold added [] sorted) → IsCalls marks (fold added [] sorted) → IfOk r (λ v. IsCalls marks (items v))
calls_if items marks (Ok v) sorted e h = subst (λ (xs : List CallLine). IsCalls marks xs) (sym e) h
calls_if items marks (Err x) sorted e h = tt

-- THERE IS ONE LIST OF THEM

own_call : (x : CallLine) → is_of x.id x.serial x ≡ true
own_call x = and_from _ _ (and_from _ _ (eq-eqb x.id.number x.id.number refl) (eq-eqb x.id.version x.id.version refl)) (eq-eqb x.serial x.serial refl)

-- lines with the same ones of each call
abbrev Agree : List CallLine → List CallLine → Type 0
Agree xs ys = (id : ThreadId) (serial : ℕ) → filter (is_of id serial) xs ≡ filter (is_of id serial) ys

not_before : (x : CallLine) (xs : List CallLine) (y : CallLine) (ys : List CallLine) → IsStrictlySortedBy call_order (y ∷ ys) → Agree (x ∷ xs) (y ∷ ys) → call_order x y ≡ Less → ⊥
unfolding IsStrictlySortedBy
not_before x xs y ys t h e =
    let all : AllByRecursion (λ z. call_order x z ≡ Less) (y ∷ ys) = (e, all_weaker (λ z. call_order y z ≡ Less) (λ z. call_order x z ≡ Less) (λ z p. call_total.trans x y z e p) ys t.0) in
    let none : filter (is_of x.id x.serial) (y ∷ ys) ≡ [] = none_behind x.id x.serial x (y ∷ ys) all (own_call x) in
    let some : filter (is_of x.id x.serial) (x ∷ xs) ≡ x ∷ filter (is_of x.id x.serial) xs = rw (own_call x) refl in
    let no : x ∷ filter (is_of x.id x.serial) xs ≡ [] = sym some ∙ h x.id x.serial ∙ none in
    absurd cc

back : (xs ys : List CallLine) → Agree xs ys → Agree ys xs
back xs ys h = λ id serial. sym (h id serial)

heads_tie : (x : CallLine) (xs : List CallLine) (y : CallLine) (ys : List CallLine) (o : Ordering) → call_order x y ≡ o → IsStrictlySortedBy call_order (x ∷ xs) → IsStrictlySortedBy call_order (y ∷ ys) → Agree (x ∷ xs) (y ∷ ys) → call_order x y ≡ Equal
heads_tie x xs y ys Less e s t h = absurd (not_before x xs y ys t h e)
heads_tie x xs y ys Equal e s t h = e
heads_tie x xs y ys Greater e s t h = absurd (not_before y ys x xs s (back (x ∷ xs) (y ∷ ys) h) (call_total.antisymm y x ∙ ap ordering_reverse e))

first_alone : (id : ThreadId) (serial : ℕ) (x : CallLine) (xs : List CallLine) → IsStrictlySortedBy call_order (x ∷ xs) → is_of id serial x ≡ true → filter (is_of id serial) (x ∷ xs) ≡ x ∷ []
unfolding IsStrictlySortedBy
first_alone id serial x xs s t = rw t (ap (λ (ys : List CallLine). x ∷ ys) (none_behind id serial x xs s.0 t))

heads_same : (x : CallLine) (xs : List CallLine) (y : CallLine) (ys : List CallLine) → IsStrictlySortedBy call_order (x ∷ xs) → IsStrictlySortedBy call_order (y ∷ ys) → Agree (x ∷ xs) (y ∷ ys) → x ≡ y
heads_same x xs y ys s t h =
    let tie = heads_tie x xs y ys (call_order x y) refl s t h in
    let same : is_of y.id y.serial x ≡ true = same_from_equal x y tie in
    let one : x ∷ [] ≡ y ∷ [] = sym (first_alone y.id y.serial x xs s same) ∙ h y.id y.serial ∙ first_alone y.id y.serial y ys t (own_call y) in
    cc

rests_agree : (x : CallLine) (xs ys : List CallLine) → IsStrictlySortedBy call_order (x ∷ xs) → IsStrictlySortedBy call_order (x ∷ ys) → Agree (x ∷ xs) (x ∷ ys) → Agree xs ys
unfolding IsStrictlySortedBy
rests_agree x xs ys s t h = λ id serial. elim (cases_Bool (is_of id serial x)) [
  | inl u ↦ none_behind id serial x xs s.0 u ∙ sym (none_behind id serial x ys t.0 u)
  | inr n ↦ rw n at (h id serial)
]

rest_strict : (x : CallLine) (xs : List CallLine) → IsStrictlySortedBy call_order (x ∷ xs) → IsStrictlySortedBy call_order xs
unfolding IsStrictlySortedBy
rest_strict x xs s = s.1

lists_agree : (xs ys : List CallLine) → IsStrictlySortedBy call_order xs → IsStrictlySortedBy call_order ys → Agree xs ys → xs ≡ ys
lists_agree [] [] s t h = refl
lists_agree [] (y ∷ ys) s t h = let no : [] ≡ y ∷ [] = h y.id y.serial ∙ first_alone y.id y.serial y ys t (own_call y) in absurd cc
lists_agree (x ∷ xs) [] s t h = let no : x ∷ [] ≡ [] = sym (first_alone x.id x.serial x xs s (own_call x)) ∙ h x.id x.serial in absurd cc
lists_agree (x ∷ xs) (y ∷ ys) s t h =
    let same : x ≡ y = heads_same x xs y ys s t h in
    let t' : IsStrictlySortedBy call_order (x ∷ ys) = subst (λ (z : CallLine). IsStrictlySortedBy call_order (z ∷ ys)) (sym same) t in
    let h' : Agree (x ∷ xs) (x ∷ ys) = subst (λ (z : CallLine). Agree (x ∷ xs) (z ∷ ys)) (sym same) h in
    ap (λ (z : CallLine). z ∷ xs) same ∙ ap (λ (zs : List CallLine). y ∷ zs) (lists_agree xs ys (rest_strict x xs s) (rest_strict x ys t') (rests_agree x xs ys s t' h'))

pub one_list : (marks : List StepMark) (a b : List CallLine) → IsCalls marks a → IsCalls marks b → a ≡ b
one_list marks a b h k = lists_agree a b h.ordered k.ordered (λ id serial. h.told id serial ∙ sym (k.told id serial))
