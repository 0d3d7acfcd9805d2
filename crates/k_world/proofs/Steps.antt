-- Step marks: which steps have one, and that those of a call are numbered in their order.
use Rattle.std.proofs.Common.{◌≡◌, ℕ, zero, suc, ◌+◌, ◌≤◌, ◌==◌, Bool, true, false, ◌&&◌, not, if◌then◌else◌, cond, nat_lt, List, [], ◌∷◌, ◌++◌, length, map, refl, sym, ap, ◌∙◌, subst, arith, inl, inr}
use Rattle.std.specs.List.{AllByRecursion, IsDistinct, filter, range_with_len}
use Rattle.std.proofs.lemmas.Bool.{and_from, and_parts, both_ways, cases_Bool, cases_lt, eq-eqb, eqb-true, le-ltb, lt-ltb, ne_eqb}
use Rattle.std.proofs.lemmas.List.{append-nil, length_push, map-append, map-id}
use Rattle.std.proofs.lemmas.List.Elements.{filter-append}
use Rattle.std.proofs.lemmas.List.FromFn.{length-range_with_len, map-range_with_len_more}
use Rattle.k_lists.proofs.All.{all_weaker}
use Rattle.k_ids.specs.declared.threads.ThreadId.{ThreadId}
use Rattle.k_locks.specs.declared.steps.Answer.{Answer}
use Rattle.k_locks.specs.declared.steps.Answer.TheVariants as answered
use Rattle.k_locks.specs.declared.steps.Step.{Step}
use Rattle.k_locks.specs.declared.steps.Told.{Told}
use Rattle.k_locks.specs.declared.steps.Told.TheVariants as told
use Rattle.k_locks.specs.Steps.{is_again, is_again_told, one_more}
use Rattle.k_model.specs.State.{same_id}
use Rattle.k_caller.specs.Activities as activities
use Rattle.k_caller.specs.Threads.{ThreadSeen}
use Rattle.k_caller.specs.Threads as threads
use Rattle.k_switch.specs.declared.carrier_context.CarrierContext.{CarrierContext}
use Rattle.k_switch.specs.Carriers.{last_serial}
use Rattle.k_switch.specs.Carriers as carriers
use Rattle.k_context.specs.declared.owner.Owner.{Owner}
use Rattle.k_context.specs.declared.owner.Owner.TheVariants as owner
use Rattle.k_context.specs.Contexts.{ContextSeen, Thread, Carrier, done_of, owner_of, resumed, serial_of}
use Rattle.k_carrier.specs.declared.marks.StepMark.{StepMark}
use Rattle.k_world.specs.Lawful.{IsLawfulMarks, IsOnceMade, belongs_to, numbers_of, same_step}
use Rattle.k_script.specs.Script.{Script}
use Rattle.k_carrier.specs.Running.{runner_of}
use Rattle.k_world.specs.Steps.{course_in, moved, step_in}
use Rattle.k_world.specs.Worlds.{World}
use Rattle.k_world.specs.Marks.{Course, Still, Onward, HeldUp, course_by, course_told, has_mark, marks_by, same_owner, step_mark}

-- WHICH STEPS HAVE A MARK

-- the mark of a step that isn't made again
abbrev pub expected : ContextSeen → Bool → Owner → List StepMark
expected v again runner = if not again && has_mark v then step_mark v runner ∷ [] else []

told_marked : (v : ContextSeen) (s : Step) (t : Told) (runner : Owner) → marks_by runner (course_told v s t) ≡ expected v (is_again_told t) runner
told_marked v s (told.Owned i) runner = refl
told_marked v s (told.Holds i) runner = refl
told_marked v s (told.Taken i carrier) runner = refl
told_marked v s (told.Loaded bits) runner = refl
told_marked v s told.Stored runner = refl
told_marked v s told.Won runner = refl
told_marked v s (told.Lost found) runner = refl
told_marked v s told.Released runner = refl
told_marked v s told.Placed runner = refl
told_marked v s told.Removed runner = refl

pub step_marked : (v : ContextSeen) (s : Step) (a : Answer) (runner : Owner) → marks_by runner (course_by v s a) ≡ expected v (is_again a) runner
step_marked v s (answered.Got goods) runner = refl
step_marked v s (answered.Told t) runner = told_marked v s t runner

-- WHAT A CONTEXT COUNTS

counted_thread : (t : ThreadSeen) (a : Answer) → t.done ≤ last_serial → (threads.resumed t a).done ≡ (if not (is_again a) && (activities.is_of_call t.activity && nat_lt t.done last_serial) then one_more t.done else t.done)
counted_thread t a l = elim (cases_Bool (is_again a)) [
  | inl e ↦ rw e refl
  | inr n ↦ rw n (elim (cases_Bool (activities.is_of_call t.activity)) [
    | inl c ↦ rw c (elim (cases_lt t.done last_serial) [
      | inl below ↦ rw (lt-ltb t.done last_serial below) refl
      | inr above ↦ rw (le-ltb t.done last_serial above) (omega arith)
    ])
    | inr d ↦ rw d refl
  ])
]

counted_carrier : (k : CarrierContext) (a : Answer) → k.serial ≤ last_serial → (carriers.resumed k a).done ≡ (if not (is_again a) && nat_lt k.serial last_serial then one_more k.done else k.done)
counted_carrier k a l = elim (cases_Bool (is_again a)) [
  | inl e ↦ rw e refl
  | inr n ↦ rw n (elim (cases_lt k.serial last_serial) [
    | inl below ↦ rw (lt-ltb k.serial last_serial below) (rw (ne_eqb k.serial last_serial (λ e. absurd (omega (arith, e, below)))) refl)
    | inr above ↦
        let same : k.serial ≡ last_serial = omega (arith, l, above) in
        rw (le-ltb k.serial last_serial above) (rw (eq-eqb k.serial last_serial same) refl)
  ])
]

pub step_counted : (v : ContextSeen) (a : Answer) → serial_of v ≤ last_serial → done_of v ≤ last_serial → done_of (resumed v a) ≡ (if not (is_again a) && has_mark v then one_more (done_of v) else done_of v)
step_counted (Thread t) a s l = counted_thread t a l
step_counted (Carrier k) a s l = counted_carrier k a s

-- IN THEIR ORDER

range_more : (n : ℕ) → range_with_len 0 (n + 1) ≡ range_with_len 0 n ++ n ∷ []
range_more n = sym (map-id (range_with_len 0 (n + 1))) ∙ (map-range_with_len_more (λ (i : ℕ). i) 0 n n (omega arith) ∙ ap (λ ns. ns ++ n ∷ []) (map-id (range_with_len 0 n)))

id_same : (a b : ThreadId) → same_id a b ≡ true → a ≡ b
id_same a b h =
    let both = and_parts (a.number == b.number) (a.version == b.version) h in
    let numbers : a.number ≡ b.number = eqb-true a.number b.number both.0 in
    let versions : a.version ≡ b.version = eqb-true a.version b.version both.1 in
    λ i. record { number = numbers i; version = versions i }

pub owner_same : (a b : Owner) → same_owner a b ≡ true → a ≡ b
owner_same (owner.Thread a) (owner.Thread b) h = ap owner.Thread (id_same a b h)
owner_same (owner.Carrier a) (owner.Carrier b) h = ap owner.Carrier (eqb-true a b h)
owner_same (owner.Thread a) (owner.Carrier b) h = absurd cc
owner_same (owner.Carrier a) (owner.Thread b) h = absurd cc

pub owner_self : (o : Owner) → same_owner o o ≡ true
owner_self (owner.Thread a) = and_from (a.number == a.number) (a.version == a.version) (eq-eqb a.number a.number refl) (eq-eqb a.version a.version refl)
owner_self (owner.Carrier a) = eq-eqb a a refl

-- the numbers of a call, with one mark more in the log
numbers_more : (o : Owner) (serial : ℕ) (marks : List StepMark) (m : StepMark) → numbers_of o serial (marks ++ m ∷ []) ≡ numbers_of o serial marks ++ cond (belongs_to o serial m) (m.number ∷ []) []
numbers_more o serial marks m = elim (cases_Bool (belongs_to o serial m)) [
  | inl t ↦ ap (map (λ (x : StepMark). x.number)) (filter-append (belongs_to o serial) marks (m ∷ [])) ∙ (map-append (λ (x : StepMark). x.number) (filter (belongs_to o serial) marks) (filter (belongs_to o serial) (m ∷ [])) ∙ rw t refl)
  | inr f ↦ ap (map (λ (x : StepMark). x.number)) (filter-append (belongs_to o serial) marks (m ∷ [])) ∙ (map-append (λ (x : StepMark). x.number) (filter (belongs_to o serial) marks) (filter (belongs_to o serial) (m ∷ [])) ∙ rw f refl)
]

in_order : (ns : List ℕ) (n : ℕ) → ns ≡ range_with_len 0 (length ns) → length ns ≡ n → ns ++ n ∷ [] ≡ range_with_len 0 (length (ns ++ n ∷ []))
in_order ns n h e =
    let longer : length (ns ++ n ∷ []) ≡ length ns + 1 = length_push ns n in
    let whole : ns ++ length ns ∷ [] ≡ range_with_len 0 (length ns + 1) = ap (λ xs. xs ++ length ns ∷ []) h ∙ sym (range_more (length ns)) in
    ap (λ k. ns ++ k ∷ []) (sym e) ∙ (whole ∙ ap (range_with_len 0) (sym longer))

pub lawful_next : (marks : List StepMark) (m : StepMark) → IsLawfulMarks marks → length (numbers_of m.owner m.serial marks) ≡ m.number → IsLawfulMarks (marks ++ m ∷ [])
lawful_next marks m h e o serial = elim (cases_Bool (belongs_to o serial m)) [
  | inl t ↦
      let both = and_parts (same_owner m.owner o) (m.serial == serial) t in
      let mine : numbers_of o serial marks ≡ numbers_of m.owner m.serial marks = ap (λ x. numbers_of x serial marks) (sym (owner_same m.owner o both.0)) ∙ ap (λ s. numbers_of m.owner s marks) (sym (eqb-true m.serial serial both.1)) in
      let more : numbers_of o serial (marks ++ m ∷ []) ≡ numbers_of o serial marks ++ m.number ∷ [] = numbers_more o serial marks m ∙ rw t refl in
      rw more (in_order (numbers_of o serial marks) m.number (h o serial) (ap length mine ∙ e))
  | inr f ↦
      let same : numbers_of o serial (marks ++ m ∷ []) ≡ numbers_of o serial marks = numbers_more o serial marks m ∙ (rw f (append-nil (numbers_of o serial marks))) in
      rw same (h o serial)
]

-- with what a step leaves
lawful_course : (marks : List StepMark) (runner : Owner) (course : Course) → IsLawfulMarks marks → ((v : ContextSeen) → course ≡ Onward v → length (numbers_of (owner_of v) (serial_of v) marks) ≡ done_of v) → IsLawfulMarks (marks ++ marks_by runner course)
lawful_course marks runner Still h f = rw (append-nil marks) h
lawful_course marks runner (HeldUp v wanted i) h f = rw (append-nil marks) h
lawful_course marks runner (Onward v) h f = elim (cases_Bool (has_mark v)) [
  | inl t ↦ rw t (lawful_next marks (step_mark v runner) h (f v refl))
  | inr g ↦ rw g (rw (append-nil marks) h)
]

pub lawful_step : (script : Script) (c : ℕ) (w : World) → IsLawfulMarks w.steps → ((v : ContextSeen) → course_in (step_in script c w) ≡ Onward v → length (numbers_of (owner_of v) (serial_of v) w.steps) ≡ done_of v) → IsLawfulMarks (moved script c w).steps
unfolding moved
lawful_step script c w h f = lawful_course w.steps (runner_of (step_in script c w).asked) (course_in (step_in script c w)) h f

-- EACH ONCE

range_first : (a n : ℕ) (x : ℕ) (xs : List ℕ) → x ∷ xs ≡ range_with_len a n → (x ≡ a) × (xs ≡ range_with_len (a + 1) (length xs))
range_first a zero x xs h = absurd cc
range_first a (suc n) x xs h =
    let rest : xs ≡ range_with_len (a + 1) n = cc in
    let size : length xs ≡ n = ap length rest ∙ length-range_with_len (a + 1) n in
    (cc, rest ∙ ap (range_with_len (a + 1)) (sym size))

-- each is at least the first
above : (a : ℕ) (ns : List ℕ) → ns ≡ range_with_len a (length ns) → AllByRecursion (λ n. a ≤ n) ns
above a [] h = tt
above a (n ∷ ns) h =
    let parts = range_first a (suc (length ns)) n ns h in
    (omega (arith, parts.0), all_weaker (λ k. a + 1 ≤ k) (λ k. a ≤ k) (λ k l. omega (arith, l)) ns (above (a + 1) ns parts.1))

numbers_yes : (o : Owner) (serial : ℕ) (m : StepMark) (marks : List StepMark) → belongs_to o serial m ≡ true → numbers_of o serial (m ∷ marks) ≡ m.number ∷ numbers_of o serial marks
numbers_yes o serial m marks t = rw t refl

numbers_no : (o : Owner) (serial : ℕ) (m : StepMark) (marks : List StepMark) → belongs_to o serial m ≡ false → numbers_of o serial (m ∷ marks) ≡ numbers_of o serial marks
numbers_no o serial m marks f = rw f refl

-- The numbers of each call begin with `from`.
abbrev Numbered : (Owner → ℕ → ℕ) → List StepMark → Type 0
Numbered from marks = (o : Owner) (serial : ℕ) → numbers_of o serial marks ≡ range_with_len (from o serial) (length (numbers_of o serial marks))

of_its_own : (m : StepMark) → belongs_to m.owner m.serial m ≡ true
of_its_own m = and_from (same_owner m.owner m.owner) (m.serial == m.serial) (owner_self m.owner) (eq-eqb m.serial m.serial refl)

numbered_first : (from : Owner → ℕ → ℕ) (m : StepMark) (marks : List StepMark) → Numbered from (m ∷ marks) → (m.number ≡ from m.owner m.serial) × (numbers_of m.owner m.serial marks ≡ range_with_len (from m.owner m.serial + 1) (length (numbers_of m.owner m.serial marks)))
numbered_first from m marks h =
    let own = numbers_yes m.owner m.serial m marks (of_its_own m) in
    range_first (from m.owner m.serial) _ m.number (numbers_of m.owner m.serial marks) (sym own ∙ h m.owner m.serial)

-- without the first, the numbers of its call begin one later
abbrev later : (Owner → ℕ → ℕ) → StepMark → Owner → ℕ → ℕ
later from m o serial = if belongs_to o serial m then from o serial + 1 else from o serial

numbered_rest : (from : Owner → ℕ → ℕ) (m : StepMark) (marks : List StepMark) → Numbered from (m ∷ marks) → Numbered (later from m) marks
numbered_rest from m marks h o serial = elim (cases_Bool (belongs_to o serial m)) [
  | inl t ↦
      let own = numbers_yes o serial m marks t in
      rw t (range_first (from o serial) _ m.number (numbers_of o serial marks) (sym own ∙ h o serial)).1
  | inr f ↦
      let same = numbers_no o serial m marks f in
      rw f (sym same ∙ (h o serial ∙ ap (λ ns. range_with_len (from o serial) (length ns)) same))
]

-- a later mark of another number isn't of the same step
not_same : (m x : StepMark) → (belongs_to m.owner m.serial x ≡ true → m.number + 1 ≤ x.number) → same_step m x ≡ false
not_same m x h = elim (cases_Bool (same_step m x)) [
  | inr f ↦ f
  | inl t ↦
      let a = and_parts (same_owner m.owner x.owner) ((m.serial == x.serial) && (m.number == x.number)) t in
      let b = and_parts (m.serial == x.serial) (m.number == x.number) a.1 in
      let owners : m.owner ≡ x.owner = owner_same m.owner x.owner a.0 in
      let serials : m.serial ≡ x.serial = eqb-true m.serial x.serial b.0 in
      let numbers : m.number ≡ x.number = eqb-true m.number x.number b.1 in
      let mine : belongs_to m.owner m.serial x ≡ true = and_from (same_owner x.owner m.owner) (x.serial == m.serial) (ap (λ o. same_owner o m.owner) (sym owners) ∙ owner_self m.owner) (eq-eqb x.serial m.serial (sym serials)) in
      absurd (omega (arith, h mine, numbers))
]

-- what holds of the numbers of a call holds of the marks of that call
of_call_all : (o : Owner) (serial a : ℕ) (marks : List StepMark) → AllByRecursion (λ n. a ≤ n) (numbers_of o serial marks) → AllByRecursion (λ x. belongs_to o serial x ≡ true → a ≤ x.number) marks
of_call_all o serial a [] h = tt
of_call_all o serial a (x ∷ marks) h = elim (cases_Bool (belongs_to o serial x)) [
  | inl t ↦
      let both : AllByRecursion (λ n. a ≤ n) (x.number ∷ numbers_of o serial marks) = subst (AllByRecursion (λ (n : ℕ). a ≤ n)) (numbers_yes o serial x marks t) h in
      (λ e. both.0, of_call_all o serial a marks both.1)
  | inr f ↦
      let rest : AllByRecursion (λ n. a ≤ n) (numbers_of o serial marks) = subst (AllByRecursion (λ (n : ℕ). a ≤ n)) (numbers_no o serial x marks f) h in
      (λ e. absurd (both_ways (belongs_to o serial x) f e), of_call_all o serial a marks rest)
]

once_made : (from : Owner → ℕ → ℕ) (marks : List StepMark) → Numbered from marks → IsOnceMade marks
unfolding IsDistinct
once_made from [] h = tt
once_made from (m ∷ marks) h =
    let parts = numbered_first from m marks h in (
      all_weaker (λ x. belongs_to m.owner m.serial x ≡ true → from m.owner m.serial + 1 ≤ x.number) (λ x. same_step m x ≡ false)
          (λ x l. not_same m x (λ e. omega (arith, l e, parts.0))) marks
          (of_call_all m.owner m.serial (from m.owner m.serial + 1) marks (above (from m.owner m.serial + 1) (numbers_of m.owner m.serial marks) parts.1)),
      once_made (later from m) marks (numbered_rest from m marks h),
    )

pub lawful_once : (marks : List StepMark) → IsLawfulMarks marks → IsOnceMade marks
lawful_once marks h = once_made (λ o serial. 0) marks h
