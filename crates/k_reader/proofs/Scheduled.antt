-- The threads, the events and the turns of a script are taken in.
use Rattle.std.proofs.Common.{◌≡◌, ℕ, suc, ◌+◌, ◌-◌, ◌<◌, ◌≤◌, Bool, true, false, ltb, eqb, List, [], ◌∷◌, ◌++◌, map, length, refl, sym, ap, ◌∙◌, subst, arith, Option, Some, None, Result, Ok, append_assoc}
use Rattle.std.specs.Prelude.{slice_get, slice_index}
use Rattle.std.specs.List.{list_all, list_any, flat_map, sum_by, AllByRecursion, IsDistinct}
use Rattle.std.specs.Option.{IfSome}
use Rattle.std.specs.Str.{bytes_eq}
use Rattle.std.proofs.lemmas.Bool.{lt-ltb, le-ltb, lt-leb, eqb-false, ne_eqb, or_from}
use Rattle.std.proofs.lemmas.List.{append-nil, length-append}
use Rattle.std.proofs.lemmas.List.Sums.{sum_by-append}
use Rattle.std.proofs.lemmas.Grind.{flat_map-append}
use Rattle.k_lists.proofs.Distinct.{distinct_before, distinct_left}
use Rattle.k_lists.proofs.All.{all_parts}
use Rattle.k_script.specs.declared.lines.ThreadLine.{ThreadLine}
use Rattle.k_script.specs.declared.lines.AtWhat.{AtWhat}
use Rattle.k_script.specs.declared.lines.AtWhat.TheVariants as what
use Rattle.k_script.specs.declared.lines.AtLine.{AtLine}
use Rattle.k_script.specs.declared.lines.Item.{Item}
use Rattle.k_script.specs.Script.{Program}
use Rattle.k_script.specs.Limits.{IsThread, IsEvent, IsAtLine, IsRising, started, started_by, IsItem, steps_of}
use Rattle.k_lines.specs.Numbers.{exactly}
use Rattle.k_lines.proofs.Digits.{in_range-spelled}
use Rattle.k_reader.specs.declared.fault.Why.{Why}
use Rattle.k_reader.specs.Draft.{Draft, carriers_of, is_nil, is_number, falls, falls_behind}
use Rattle.k_reader.specs.Reading.{on_ok, accept, accept_thread, accept_start, accept_slice, accept_turns, are_many, has_numbers, items_in}
use Rattle.k_reader.specs.Grammar.{thread_line, event_line, at_line, item_line}
use Rattle.k_reader.proofs.Named.{named_at}
use Rattle.k_reader.proofs.Unresolved.{items-given, items-numbers}
use Rattle.k_reader.proofs.Taken.{taken, taken-one, draft}

-- THE THREADS

accept-thread : (v t : ℕ) (c : Option ℕ) (s : Bool) (aged : List ℕ) (ps : List Program) (ts : List ThreadLine) (x : ThreadLine) → length ts < t → slice_index aged (length ts) ≡ 0 → IsDistinct bytes_eq (map (λ p. p.name) ps) → IsThread (length ps) x → accept (draft v t c s aged ps None ts [] []) (thread_line ps x) ≡ Ok (draft v t c s aged ps None (ts ++ x ∷ []) [] [])
unfolding accept accept_thread
accept-thread v t c s aged ps ts x room fresh names h =
    rw (in_range-spelled 0 63 x.priority (omega arith) h.priority) (rw (named_at ps x.program h.program names) (rw (lt-leb t (length ts) room) (rw fresh refl)))

pub taken-threads : (v t : ℕ) (c : Option ℕ) (s : Bool) (aged : List ℕ) (ps : List Program) (done rest : List ThreadLine) → length (done ++ rest) ≤ t → ((n : ℕ) → n < length (done ++ rest) → slice_index aged n ≡ 0) → IsDistinct bytes_eq (map (λ p. p.name) ps) → AllByRecursion (IsThread (length ps)) rest → taken (draft v t c s aged ps None done [] []) (map (thread_line ps) rest) ≡ Ok (draft v t c s aged ps None (done ++ rest) [] [])
taken-threads v t c s aged ps done [] room fresh names h = ap (λ (ts : List ThreadLine). Ok (draft v t c s aged ps None ts [] [])) (sym (append-nil done))
taken-threads v t c s aged ps done (x ∷ rest) room fresh names h =
    let long : length (done ++ x ∷ rest) ≡ length done + length (x ∷ rest) = length-append done (x ∷ rest) in
    let same : (done ++ x ∷ []) ++ rest ≡ done ++ x ∷ rest = append_assoc done (x ∷ []) rest in
    let more = taken-threads v t c s aged ps (done ++ x ∷ []) rest (subst (λ (ts : List ThreadLine). length ts ≤ t) (sym same) room) (subst (λ (ts : List ThreadLine). (n : ℕ) → n < length ts → slice_index aged n ≡ 0) (sym same) fresh) names h.1 in
    taken-one (draft v t c s aged ps None done [] []) (draft v t c s aged ps None (done ++ x ∷ []) [] []) (draft v t c s aged ps None (done ++ x ∷ rest) [] []) (thread_line ps x) (map (thread_line ps) rest)
    (accept-thread v t c s aged ps done x (omega (arith, room, long)) (fresh (length done) (omega (arith, long))) names h.0)
    (more ∙ ap (λ (ts : List ThreadLine). Ok (draft v t c s aged ps None ts [] [])) same)

-- THE EVENTS

-- the last of the lines before isn't later
before_last : (xs : List AtLine) (a : AtLine) (ys : List AtLine) → IsRising (xs ++ a ∷ ys) → IfSome (slice_get xs (length xs - 1)) (λ b. b.step ≤ a.step)
before_last [] a ys h = tt
before_last (b ∷ []) a [] h = h.0
before_last (b ∷ []) a (y ∷ ys) h = h.0
before_last (b ∷ c ∷ xs) a ys h =
    let e : length (b ∷ c ∷ xs) - 1 ≡ suc (length (c ∷ xs) - 1) = omega arith in
    subst (λ (o : Option AtLine). IfSome o (λ d. d.step ≤ a.step)) (sym (ap (slice_get (b ∷ c ∷ xs)) e)) (before_last (c ∷ xs) a ys h.1)

not_behind : (o : Option AtLine) (k : ℕ) → IfSome o (λ b. b.step ≤ k) → falls_behind o (Some k) ≡ false
not_behind None k h = refl
not_behind (Some b) k h = le-ltb k b.step h

rises : (xs : List AtLine) (a : AtLine) (ys : List AtLine) → IsRising (xs ++ a ∷ ys) → a.step ≤ 4294967295 → falls xs (exactly a.step) ≡ false
rises xs a ys h low = ap (falls_behind (slice_get xs (length xs - 1))) (in_range-spelled 0 4294967295 a.step (omega arith) low) ∙ not_behind (slice_get xs (length xs - 1)) a.step (before_last xs a ys h)

none_such : (n : ℕ) (ks : List ℕ) → AllByRecursion (λ k. eqb k n ≡ false) ks → list_any (is_number (exactly n)) ks ≡ false
none_such n [] h = refl
none_such n (k ∷ ks) h = or_from (eqb n k) (list_any (is_number (exactly n)) ks) (ne_eqb n k (λ e. eqb-false k n h.0 (sym e))) (none_such n ks h.1)

-- what is said of an event, given the lines before
Comes : List AtLine → AtLine → Type 0
Comes xs a = IsDistinct (λ a b. eqb a b) (started xs ++ started_by a.what)

comes : (xs : List AtLine) (a : AtLine) (ys : List AtLine) → IsDistinct (λ a b. eqb a b) (started (xs ++ a ∷ ys)) → Comes xs a
unfolding Comes
comes xs a ys h =
    let split : started (xs ++ a ∷ ys) ≡ started xs ++ (started_by a.what ++ started ys) = flat_map-append (λ a. started_by a.what) xs (a ∷ ys) in
    distinct_left (λ a b. eqb a b) (started xs ++ started_by a.what) (started ys) (subst (IsDistinct (λ a b. eqb a b)) (split ∙ sym (append_assoc (started xs) (started_by a.what) (started ys))) h)

accept-event : (v t : ℕ) (c : Option ℕ) (s : Bool) (aged : List ℕ) (ps : List Program) (ts : List ThreadLine) (xs : List AtLine) (k : ℕ) (w : AtWhat) (d : Draft) → d ≡ draft v t c s aged ps None ts xs [] → is_nil ts ≡ false → falls xs (exactly k) ≡ false → k ≤ 4294967295 → length xs < 10000 → IsEvent (carriers_of d) (length ts) w → Comes xs (record { step = k; what = w }) → accept d (event_line k w) ≡ Ok (draft v t c s aged ps None ts (xs ++ record { step = k; what = w } ∷ []) [])
unfolding accept accept_start accept_slice Comes
accept-event v t c s aged ps ts xs k (what.Start n) d same some rising low room fits once =
    rw same (rw some (rw rising (rw (none_such n (started xs) (distinct_before (λ a b. eqb a b) (started xs) n [] once)) (rw (in_range-spelled 0 4294967295 k (omega arith) low) (rw (lt-ltb n (length ts) fits) (rw (lt-leb 10000 (length xs) room) refl))))))
accept-event v t c s aged ps ts xs k (what.Slice n) d same some rising low room fits once =
    let few : n < carriers_of (draft v t c s aged ps None ts xs []) = subst (λ (e : Draft). n < carriers_of e) same fits in
    rw same (rw some (rw rising (rw (in_range-spelled 0 4294967295 k (omega arith) low) (rw (lt-ltb n (carriers_of (draft v t c s aged ps None ts xs [])) few) (rw (lt-leb 10000 (length xs) room) refl)))))

pub taken-events : (v t : ℕ) (c : Option ℕ) (s : Bool) (aged : List ℕ) (ps : List Program) (ts : List ThreadLine) (n : ℕ) (done rest : List AtLine) → is_nil ts ≡ false → carriers_of (draft v t c s aged ps None ts done []) ≡ n → length (done ++ rest) ≤ 10000 → IsRising (done ++ rest) → IsDistinct (λ a b. eqb a b) (started (done ++ rest)) → AllByRecursion (IsAtLine n (length ts)) rest → taken (draft v t c s aged ps None ts done []) (map at_line rest) ≡ Ok (draft v t c s aged ps None ts (done ++ rest) [])
taken-events v t c s aged ps ts n done [] some carriers few rising once h = ap (λ (xs : List AtLine). Ok (draft v t c s aged ps None ts xs [])) (sym (append-nil done))
taken-events v t c s aged ps ts n done (a ∷ rest) some carriers few rising once h =
    let long : length (done ++ a ∷ rest) ≡ length done + length (a ∷ rest) = length-append done (a ∷ rest) in
    let same : (done ++ a ∷ []) ++ rest ≡ done ++ a ∷ rest = append_assoc done (a ∷ []) rest in
    let more = taken-events v t c s aged ps ts n (done ++ a ∷ []) rest some carriers (subst (λ (xs : List AtLine). length xs ≤ 10000) (sym same) few) (subst IsRising (sym same) rising) (subst (λ (xs : List AtLine). IsDistinct (λ a b. eqb a b) (started xs)) (sym same) once) h.1 in
    taken-one (draft v t c s aged ps None ts done []) (draft v t c s aged ps None ts (done ++ a ∷ []) []) (draft v t c s aged ps None ts (done ++ a ∷ rest) []) (at_line a) (map at_line rest)
    (accept-event v t c s aged ps ts done a.step a.what (draft v t c s aged ps None ts done []) refl some (rises done a rest rising h.0.step) h.0.step (omega (arith, few, long)) (subst (λ (k : ℕ). IsEvent k (length ts) a.what) (sym carriers) h.0.event) (comes done a rest once))
    (more ∙ ap (λ (xs : List AtLine). Ok (draft v t c s aged ps None ts xs [])) same)

-- THE TURNS, line by line

abbrev pub taken_turns : Draft → List (List Item) → Result Draft Why
taken_turns d [] = Ok d
taken_turns d (is ∷ more) = on_ok (accept_turns d (map item_line is)) (λ e. taken_turns e more)

turns-accepted : (v t : ℕ) (c : Option ℕ) (s : Bool) (aged : List ℕ) (ps : List Program) (ts : List ThreadLine) (xs : List AtLine) (turns more : List Item) (d : Draft) → d ≡ draft v t c s aged ps None ts xs turns → is_nil ts ≡ false → ltb (carriers_of d) 2 ≡ false → list_all has_numbers (map item_line more) ≡ true → items_in (carriers_of d) (map item_line more) ≡ Some more → are_many turns more ≡ false → accept_turns d (map item_line more) ≡ Ok (draft v t c s aged ps None ts xs (turns ++ more))
unfolding accept_turns
turns-accepted v t c s aged ps ts xs turns more d same some several numbers items many =
    let n = carriers_of (draft v t c s aged ps None ts xs turns) in
    let a : ltb n 2 ≡ false = subst (λ (e : Draft). ltb (carriers_of e) 2 ≡ false) same several in
    let b : items_in n (map item_line more) ≡ Some more = subst (λ (e : Draft). items_in (carriers_of e) (map item_line more) ≡ Some more) same items in
    rw same (rw some (rw a (rw numbers (rw b (rw many refl)))))

accept-turns : (v t : ℕ) (c : Option ℕ) (s : Bool) (aged : List ℕ) (ps : List Program) (ts : List ThreadLine) (xs : List AtLine) (turns more : List Item) (d : Draft) → d ≡ draft v t c s aged ps None ts xs turns → is_nil ts ≡ false → 2 ≤ carriers_of d → AllByRecursion (IsItem (carriers_of d)) more → length turns + length more ≤ 10000 → sum_by steps_of turns + sum_by steps_of more ≤ 1000000 → accept_turns d (map item_line more) ≡ Ok (draft v t c s aged ps None ts xs (turns ++ more))
accept-turns v t c s aged ps ts xs turns more d same some several fits few bounded =
    let numbers = items-numbers (carriers_of d) more fits in
    let items = items-given (carriers_of d) more fits in
    let many : are_many turns more ≡ false = or_from (ltb 10000 (length turns + length more)) (ltb 1000000 (sum_by steps_of turns + sum_by steps_of more)) (le-ltb 10000 (length turns + length more) few) (le-ltb 1000000 (sum_by steps_of turns + sum_by steps_of more) bounded) in
    turns-accepted v t c s aged ps ts xs turns more d same some (le-ltb (carriers_of d) 2 several) numbers items many

pub taken-turns : (v t : ℕ) (c : Option ℕ) (s : Bool) (aged : List ℕ) (ps : List Program) (ts : List ThreadLine) (xs : List AtLine) (n : ℕ) (done : List Item) (rest : List (List Item)) → is_nil ts ≡ false → carriers_of (draft v t c s aged ps None ts xs done) ≡ n → (1 ≤ length rest → 2 ≤ n) → AllByRecursion (IsItem n) (flat_map (λ is. is) rest) → length (done ++ flat_map (λ is. is) rest) ≤ 10000 → sum_by steps_of (done ++ flat_map (λ is. is) rest) ≤ 1000000 → taken_turns (draft v t c s aged ps None ts xs done) rest ≡ Ok (draft v t c s aged ps None ts xs (done ++ flat_map (λ is. is) rest))
taken-turns v t c s aged ps ts xs n done [] some carriers several h few bounded = ap (λ (is : List Item). Ok (draft v t c s aged ps None ts xs is)) (sym (append-nil done))
taken-turns v t c s aged ps ts xs n done (is ∷ rest) some carriers several h few bounded =
    let tail : List Item = flat_map (λ is. is) rest in
    let two = several (omega arith) in
    let both = all_parts (IsItem n) is tail h in
    let same : (done ++ is) ++ tail ≡ done ++ (is ++ tail) = append_assoc done is tail in
    let front : length ((done ++ is) ++ tail) ≡ length (done ++ is) + length tail = length-append (done ++ is) tail in
    let start : length (done ++ is) ≡ length done + length is = length-append done is in
    let all : length ((done ++ is) ++ tail) ≤ 10000 = subst (λ (x : List Item). length x ≤ 10000) (sym same) few in
    let sums : sum_by steps_of ((done ++ is) ++ tail) ≤ 1000000 = subst (λ (x : List Item). sum_by steps_of x ≤ 1000000) (sym same) bounded in
    let first : sum_by steps_of ((done ++ is) ++ tail) ≡ sum_by steps_of (done ++ is) + sum_by steps_of tail = sum_by-append steps_of (done ++ is) tail in
    let second : sum_by steps_of (done ++ is) ≡ sum_by steps_of done + sum_by steps_of is = sum_by-append steps_of done is in
    let one = accept-turns v t c s aged ps ts xs done is (draft v t c s aged ps None ts xs done) refl some (omega (arith, two, carriers)) (subst (λ (k : ℕ). AllByRecursion (IsItem k) is) (sym carriers) both.0) (omega (arith, all, front, start)) (omega (arith, sums, first, second)) in
    let more = taken-turns v t c s aged ps ts xs n (done ++ is) rest some carriers (λ _. two) both.1 all sums in
    ap (λ (r : Result Draft Why). on_ok r (λ e. taken_turns e rest)) one ∙ more ∙ ap (λ (x : List Item). Ok (draft v t c s aged ps None ts xs x)) same
