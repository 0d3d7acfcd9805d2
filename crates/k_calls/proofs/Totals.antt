-- How many steps lines have of a call, and that this stays as it is, however the lines are put together.
use Rattle.std.proofs.Common.{◌≡◌, ℕ, ◌+◌, ◌==◌, true, ◌&&◌, cond, List, [], ◌∷◌, length, refl, sym, ap, ◌∙◌, arith, inl, inr}
use Rattle.std.specs.List.{count_by, fold, sum_by}
use Rattle.std.specs.List.Sorted.{IsPermutation}
use Rattle.std.proofs.lemmas.Bool.{cases_Bool}
use Rattle.std.proofs.lemmas.List.Sorted.{sum_by-IsPermutation}
use Rattle.std.proofs.lemmas.List.Sums.{sum_by-cons}
use Rattle.k_ids.specs.declared.threads.ThreadId.{ThreadId}
use Rattle.k_context.specs.declared.owner.Owner.{Owner}
use Rattle.k_context.specs.declared.owner.Owner.TheVariants as owner
use Rattle.k_carrier.specs.declared.marks.StepMark.{StepMark}
use Rattle.k_world.specs.Lawful.{belongs_to}
use Rattle.k_world.specs.Marks.{capped, same_owner}
use Rattle.k_calls.specs.declared.lines.CallLine.{CallLine}
use Rattle.k_calls.specs.Calls.{is_helped, is_of, marks_of}
use Rattle.k_calls.specs.Counting.{added, both, counted, counted_for, same_call, step_line}
use Rattle.k_calls.proofs.Ordered.{is_for}

-- NUMBERS THAT STAY AT THE END OF A TYPE

capped_twice : (a b : ℕ) → capped (capped (a + b) + 0) ≡ capped ((a + 0) + b)
capped_twice a b = omega arith

capped_front : (p m n : ℕ) → capped m ≡ capped n → capped (p + m) ≡ capped (p + n)
capped_front p m n h = omega arith

capped_behind : (m n p : ℕ) → capped m ≡ capped n → capped (m + p) ≡ capped (n + p)
capped_behind m n p h = omega arith

-- OF ONE CALL

-- f of a line, if it is of this call
abbrev pub part : (CallLine → ℕ) → ThreadId → ℕ → CallLine → ℕ
part f id serial line = cond (is_of id serial line) (f line) 0

abbrev pub total : (CallLine → ℕ) → ThreadId → ℕ → List CallLine → ℕ
total f id serial [] = 0
total f id serial (x ∷ xs) = part f id serial x + total f id serial xs

total_is : (f : CallLine → ℕ) (id : ThreadId) (serial : ℕ) (xs : List CallLine) → total f id serial xs ≡ sum_by (part f id serial) xs
total_is f id serial [] = refl
total_is f id serial (x ∷ xs) = ap (λ (n : ℕ). part f id serial x + n) (total_is f id serial xs) ∙ sym (sum_by-cons (part f id serial) x xs)

pub total_moved : (f : CallLine → ℕ) (id : ThreadId) (serial : ℕ) (xs ys : List CallLine) → IsPermutation xs ys → total f id serial ys ≡ total f id serial xs
total_moved f id serial xs ys h = total_is f id serial ys ∙ sum_by-IsPermutation (part f id serial) xs ys h ∙ sym (total_is f id serial xs)

-- lines of one call are of the same calls
same_for : (id : ThreadId) (serial : ℕ) (a b : CallLine) → same_call a b ≡ true → is_of id serial b ≡ is_of id serial a
same_for id serial a b h =
    let p = is_for b.id b.serial a h in
    let same : a.id ≡ b.id = p.caller in
    let one : a.serial ≡ b.serial = p.call in
    sym (ap (λ (i : ThreadId). is_of id serial (record a { id = i })) same ∙ ap (λ (s : ℕ). is_of id serial (record a { id = b.id; serial = s })) one)

-- what is summed up stands still at the end of its type
abbrev pub AddsUp : (CallLine → ℕ) → Type 0
AddsUp f = (a b : CallLine) → f (both a b) ≡ capped (f a + f b)

put_together : (f : CallLine → ℕ) → AddsUp f → (id : ThreadId) (serial : ℕ) (a b : CallLine) → is_of id serial b ≡ is_of id serial a → capped (part f id serial (both a b) + 0) ≡ capped ((part f id serial a + 0) + part f id serial b)
put_together f up id serial a b e = elim (cases_Bool (is_of id serial a)) [
  | inl t ↦ rw (e ∙ t) (rw t (ap (λ (n : ℕ). capped (n + 0)) (up a b) ∙ capped_twice (f a) (f b)))
  | inr n ↦ rw (e ∙ n) (rw n refl)
]

-- a line more
total_added : (f : CallLine → ℕ) → AddsUp f → (id : ThreadId) (serial : ℕ) (xs : List CallLine) (x : CallLine) → capped (total f id serial (added xs x)) ≡ capped (total f id serial xs + part f id serial x)
total_added f up id serial [] x = ap capped (omega arith)
total_added f up id serial (last ∷ []) x = elim (cases_Bool (same_call last x)) [
  | inl t ↦ rw t (put_together f up id serial last x (same_for id serial last x t))
  | inr n ↦ rw n (ap capped (omega arith))
]
total_added f up id serial (a ∷ b ∷ rest) x =
    let more = total_added f up id serial (b ∷ rest) x in
    capped_front (part f id serial a) (total f id serial (added (b ∷ rest) x)) (total f id serial (b ∷ rest) + part f id serial x) more ∙ ap capped (omega arith)

pub total_folded : (f : CallLine → ℕ) → AddsUp f → (id : ThreadId) (serial : ℕ) (xs acc : List CallLine) → capped (total f id serial (fold added acc xs)) ≡ capped (total f id serial acc + total f id serial xs)
total_folded f up id serial [] acc = ap capped (omega arith)
total_folded f up id serial (x ∷ xs) acc =
    total_folded f up id serial xs (added acc x)
    ∙ capped_behind (total f id serial (added acc x)) (total f id serial acc + part f id serial x) (total f id serial xs) (total_added f up id serial acc x)
    ∙ ap capped (omega arith)

-- OF MARKS

-- what a mark of this owner adds
abbrev worth_for : (CallLine → ℕ) → ThreadId → ℕ → Owner → StepMark → ℕ
worth_for f id serial (owner.Thread a) m = part f id serial (step_line a m)
worth_for f id serial (owner.Carrier c) m = 0

abbrev worth : (CallLine → ℕ) → ThreadId → ℕ → List StepMark → ℕ
worth f id serial [] = 0
worth f id serial (m ∷ ms) = worth_for f id serial m.owner m + worth f id serial ms

total_counted_for : (f : CallLine → ℕ) → AddsUp f → (id : ThreadId) (serial : ℕ) (acc : List CallLine) (m : StepMark) (o : Owner) → capped (total f id serial (counted_for o acc m)) ≡ capped (total f id serial acc + worth_for f id serial o m)
total_counted_for f up id serial acc m (owner.Thread a) = total_added f up id serial acc (step_line a m)
total_counted_for f up id serial acc m (owner.Carrier c) = ap capped (omega arith)

total_counted : (f : CallLine → ℕ) → AddsUp f → (id : ThreadId) (serial : ℕ) (ms : List StepMark) (acc : List CallLine) → capped (total f id serial (fold counted acc ms)) ≡ capped (total f id serial acc + worth f id serial ms)
total_counted f up id serial [] acc = ap capped (omega arith)
total_counted f up id serial (m ∷ ms) acc =
    total_counted f up id serial ms (counted acc m)
    ∙ capped_behind (total f id serial (counted acc m)) (total f id serial acc + worth_for f id serial m.owner m) (worth f id serial ms) (total_counted_for f up id serial acc m m.owner)
    ∙ ap capped (omega arith)

steps_worth : (id : ThreadId) (serial : ℕ) (m : StepMark) (o : Owner) → worth_for (λ l. l.steps) id serial o m ≡ cond (same_owner o (owner.Thread id) && (m.serial == serial)) 1 0
steps_worth id serial m (owner.Thread a) = refl
steps_worth id serial m (owner.Carrier c) = refl

helped_worth : (id : ThreadId) (serial : ℕ) (m : StepMark) (o : Owner) → worth_for (λ l. l.helped) id serial o m ≡ cond (same_owner o (owner.Thread id) && (m.serial == serial)) (cond (is_helped m) 1 0) 0
helped_worth id serial m (owner.Thread a) = refl
helped_worth id serial m (owner.Carrier c) = refl

all_steps : (id : ThreadId) (serial : ℕ) (ms : List StepMark) → worth (λ l. l.steps) id serial ms ≡ length (marks_of id serial ms)
all_steps id serial [] = refl
all_steps id serial (m ∷ ms) = elim (cases_Bool (belongs_to (owner.Thread id) serial m)) [
  | inl t ↦
      let one : worth_for (λ l. l.steps) id serial m.owner m ≡ 1 = steps_worth id serial m m.owner ∙ rw t refl in
      rw t (omega (arith, one, all_steps id serial ms))
  | inr n ↦
      let none : worth_for (λ l. l.steps) id serial m.owner m ≡ 0 = steps_worth id serial m m.owner ∙ rw n refl in
      rw n (omega (arith, none, all_steps id serial ms))
]

all_helped : (id : ThreadId) (serial : ℕ) (ms : List StepMark) → worth (λ l. l.helped) id serial ms ≡ count_by is_helped (marks_of id serial ms)
all_helped id serial [] = refl
all_helped id serial (m ∷ ms) = elim (cases_Bool (belongs_to (owner.Thread id) serial m)) [
  | inl t ↦
      let here : worth_for (λ l. l.helped) id serial m.owner m ≡ cond (is_helped m) 1 0 = helped_worth id serial m m.owner ∙ rw t refl in
      rw t (ap (λ (n : ℕ). n + worth (λ l. l.helped) id serial ms) here ∙ ap (λ (n : ℕ). cond (is_helped m) 1 0 + n) (all_helped id serial ms) ∙ sym (sum_by-cons (λ x. cond (is_helped x) 1 0) m (marks_of id serial ms)))
  | inr n ↦
      let none : worth_for (λ l. l.helped) id serial m.owner m ≡ 0 = helped_worth id serial m m.owner ∙ rw n refl in
      rw n (omega (arith, none, all_helped id serial ms))
]

pub steps_counted : (id : ThreadId) (serial : ℕ) (ms : List StepMark) → capped (total (λ l. l.steps) id serial (fold counted [] ms)) ≡ capped (length (marks_of id serial ms))
steps_counted id serial ms = total_counted (λ l. l.steps) (λ a b. refl) id serial ms [] ∙ ap capped (omega (arith, all_steps id serial ms))

pub helped_counted : (id : ThreadId) (serial : ℕ) (ms : List StepMark) → capped (total (λ l. l.helped) id serial (fold counted [] ms)) ≡ capped (count_by is_helped (marks_of id serial ms))
helped_counted id serial ms = total_counted (λ l. l.helped) (λ a b. refl) id serial ms [] ∙ ap capped (omega (arith, all_helped id serial ms))
