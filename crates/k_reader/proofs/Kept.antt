-- Each line that is taken in keeps the limits.
use Rattle.std.proofs.Common.{◌≡◌, ℕ, ◌<◌, ◌≤◌, true, false, not, eqb, leb, ltb, ◌&&◌, ◌||◌, List, [], ◌∷◌, ◌++◌, length, refl, sym, ap, arith, Option, Some, None, Ok, is_some, is_none}
use Rattle.std.specs.Prelude.{slice_set}
use Rattle.std.specs.List.{list_all}
use Rattle.std.proofs.lemmas.Bool.{and_parts, or_parts, ltb-false, leb-false, eqb-true, not-false, false≢true}
use Rattle.k_script.specs.declared.lines.AtWhat.TheVariants as what
use Rattle.k_script.specs.declared.lines.Item.{Item}
use Rattle.k_script.specs.declared.operation.Operation.{Operation}
use Rattle.k_script.specs.Script.{Program}
use Rattle.k_script.specs.Limits.{depth_behind}
use Rattle.k_lines.specs.declared.numeral.Numeral.{Numeral}
use Rattle.k_lines.specs.declared.line.ItemWord.{ItemWord}
use Rattle.k_lines.specs.declared.line.OperationLine.{OperationLine}
use Rattle.k_lines.specs.Numbers.{in_range, exactly}
use Rattle.k_lines.specs.Lines.{Word}
use Rattle.k_reader.specs.declared.fault.Why.TheVariants as why
use Rattle.k_reader.specs.Draft.{Draft, table_of, carriers_of, is_nil, is_zero, free_of_events, free_of_threads, free_of_programs, free_of_aged, free_of_show, is_aged, is_started, program_at, falls}
use Rattle.k_reader.specs.Reading.{bad_if, given, on_ok, below, operation_in, misnests, with_operation, accept_operation, accept_table, accept_carriers, accept_show, accept_aged, with_program, accept_program, closed, is_closed, accept_end, with_thread, has_no_number, accept_thread, with_event, is_late, is_full, accept_start, accept_slice, has_numbers, items_in, are_many, accept_turns}
use Rattle.k_reader.proofs.Chains.{ok_bad_if, ok_given, ok_on_ok}
use Rattle.k_reader.proofs.Resolved.{ok_same, ranged, lower}
use Rattle.k_reader.proofs.Within.{Bare}

-- WHAT A TEST TELLS

pub none_of : {A : Type 0} (o : Option A) → is_some o ≡ false → o ≡ None
none_of None h = refl
none_of (Some x) h = absurd (false≢true (sym h))

pub some_of : {A : Type 0} (o : Option A) → is_none o ≡ false → (x : A) × (o ≡ Some x)
some_of None h = absurd (false≢true (sym h))
some_of (Some x) h = (x, refl)

pub no_none : {A : Type 0} (o : Option A) → is_none o ≡ false → o ≡ None → ⊥
no_none None h e = false≢true (sym h)
no_none (Some x) h e = absurd cc

pub is_none_of : {A : Type 0} (o : Option A) → is_none o ≡ true → o ≡ None
is_none_of None h = refl
is_none_of (Some x) h = absurd (false≢true h)

pub nil_of : {A : Type 0} (xs : List A) → is_nil xs ≡ true → xs ≡ []
nil_of [] h = refl
nil_of (x ∷ xs) h = absurd (false≢true h)

pub free_events : (d : Draft) → free_of_events d ≡ true → (d.at_lines ≡ []) × (d.turns ≡ [])
free_events d h = let p = and_parts (is_nil d.at_lines) (is_nil d.turns) h in (nil_of d.at_lines p.0, nil_of d.turns p.1)

pub free_threads : (d : Draft) → free_of_threads d ≡ true → Bare d
free_threads d h =
    let p = and_parts (is_nil d.threads) (free_of_events d) h in
    let q = free_events d p.1 in
    record { threads = nil_of d.threads p.0; at_lines = q.0; turns = q.1 }

pub free_programs : (d : Draft) → free_of_programs d ≡ true → (d.programs ≡ []) × (d.open_program ≡ None) × Bare d
free_programs d h =
    let p = and_parts (is_nil d.programs && is_none d.open_program) (free_of_threads d) h in
    let q = and_parts (is_nil d.programs) (is_none d.open_program) p.0 in
    (nil_of d.programs q.0, is_none_of d.open_program q.1, free_threads d p.1)

pub free_aged : (d : Draft) → free_of_aged d ≡ true → (list_all is_zero d.aged ≡ true) × (d.programs ≡ []) × (d.open_program ≡ None) × Bare d
free_aged d h =
    let p = and_parts (list_all is_zero d.aged) (free_of_programs d) h in
    let q = free_programs d p.1 in
    (p.0, q.0, q.1, q.2)

pub free_show : (d : Draft) → free_of_show d ≡ true → (not d.show_steps ≡ true) × (list_all is_zero d.aged ≡ true) × (d.programs ≡ []) × (d.open_program ≡ None) × Bare d
free_show d h =
    let p = and_parts (not d.show_steps) (free_of_aged d) h in
    let q = free_aged d p.1 in
    (p.0, q.0, q.1, q.2, q.3)

-- WHAT EACH KIND OF LINE TELLS, and what it leaves

pub table-told : (d e : Draft) (n : Numeral) → accept_table d n ≡ Ok e → (size : ℕ) × (d.table ≡ None) × (n ≡ exactly size) × (1 ≤ size) × (size ≤ 64) × (record d { table = Some size } ≡ e)
unfolding accept_table
table-told d e n h =
    let b = ok_bad_if (is_some d.table) why.Order (given (in_range 1 64 n) why.Number λ size. Ok (record d { table = Some size })) e h in
    let g = ok_given (in_range 1 64 n) why.Number (λ size. Ok (record d { table = Some size })) e b.1 in
    let r = ranged 1 64 n g.0 (omega arith) g.1 in
    (g.0, none_of d.table b.0, r.0, r.1, r.2, ok_same (record d { table = Some g.0 }) e g.2)

pub carriers-told : (d e : Draft) (n : Numeral) → accept_carriers d n ≡ Ok e → (count : ℕ) × (is_none d.table ≡ false) × (d.carriers ≡ None) × (free_of_show d ≡ true) × (n ≡ exactly count) × (1 ≤ count) × (count ≤ 8) × (record d { carriers = Some count } ≡ e)
unfolding accept_carriers
carriers-told d e n h =
    let b = ok_bad_if (is_none d.table || is_some d.carriers || not (free_of_show d)) why.Order (given (in_range 1 8 n) why.Number λ count. Ok (record d { carriers = Some count })) e h in
    let g = ok_given (in_range 1 8 n) why.Number (λ count. Ok (record d { carriers = Some count })) e b.1 in
    let p = or_parts (is_none d.table || is_some d.carriers) (not (free_of_show d)) b.0 in
    let q = or_parts (is_none d.table) (is_some d.carriers) p.0 in
    let r = ranged 1 8 n g.0 (omega arith) g.1 in
    (g.0, q.0, none_of d.carriers q.1, not-false (free_of_show d) p.1, r.0, r.1, r.2, ok_same (record d { carriers = Some g.0 }) e g.2)

pub show-told : (d e : Draft) → accept_show d ≡ Ok e → (is_none d.table ≡ false) × (free_of_show d ≡ true) × (record d { show_steps = true } ≡ e)
unfolding accept_show
show-told d e h =
    let b = ok_bad_if (is_none d.table || not (free_of_show d)) why.Order (Ok (record d { show_steps = true })) e h in
    let p = or_parts (is_none d.table) (not (free_of_show d)) b.0 in
    (p.0, not-false (free_of_show d) p.1, ok_same (record d { show_steps = true }) e b.1)

pub aged-told : (d e : Draft) (t v : Numeral) → accept_aged d t v ≡ Ok e → (number version : ℕ) × (is_none d.table ≡ false) × (free_of_programs d ≡ true) × (is_aged d.aged t ≡ false) × (t ≡ exactly number) × (number < table_of d) × (v ≡ exactly version) × (1 ≤ version) × (version ≤ 1048575) × (record d { aged = slice_set d.aged number version } ≡ e)
unfolding accept_aged
aged-told d e t v h =
    let b = ok_bad_if (is_none d.table || not (free_of_programs d) || is_aged d.aged t) why.Order (bad_if t.led why.Number (given (in_range 1 1048575 v) why.Number λ version. given (below (table_of d) t) why.Table λ number. Ok (record d { aged = slice_set d.aged number version }))) e h in
    let l = ok_bad_if t.led why.Number (given (in_range 1 1048575 v) why.Number λ version. given (below (table_of d) t) why.Table λ number. Ok (record d { aged = slice_set d.aged number version })) e b.1 in
    let g = ok_given (in_range 1 1048575 v) why.Number (λ version. given (below (table_of d) t) why.Table λ number. Ok (record d { aged = slice_set d.aged number version })) e l.1 in
    let u = ok_given (below (table_of d) t) why.Table (λ number. Ok (record d { aged = slice_set d.aged number g.0 })) e g.2 in
    let p = or_parts (is_none d.table || not (free_of_programs d)) (is_aged d.aged t) b.0 in
    let q = or_parts (is_none d.table) (not (free_of_programs d)) p.0 in
    let r = ranged 1 1048575 v g.0 (omega arith) g.1 in
    let s = lower (table_of d) t u.0 l.0 u.1 in
    (u.0, g.0, q.0, not-false (free_of_programs d) q.1, p.1, s.0, s.1, r.0, r.1, r.2, ok_same (record d { aged = slice_set d.aged u.0 g.0 }) e u.2)

pub program-told : (d e : Draft) (name : Word) → accept_program d name ≡ Ok e → (is_none d.table ≡ false) × (d.open_program ≡ None) × (free_of_threads d ≡ true) × (program_at name d.programs ≡ None) × (length d.programs < 255) × (with_program d name ≡ e)
unfolding accept_program
program-told d e name h =
    let b = ok_bad_if (is_none d.table || is_some d.open_program || not (free_of_threads d) || is_some (program_at name d.programs)) why.Order (bad_if (leb 255 (length d.programs)) why.Many (Ok (with_program d name))) e h in
    let m = ok_bad_if (leb 255 (length d.programs)) why.Many (Ok (with_program d name)) e b.1 in
    let p = or_parts (is_none d.table || is_some d.open_program || not (free_of_threads d)) (is_some (program_at name d.programs)) b.0 in
    let q = or_parts (is_none d.table || is_some d.open_program) (not (free_of_threads d)) p.0 in
    let r = or_parts (is_none d.table) (is_some d.open_program) q.0 in
    (r.0, none_of d.open_program r.1, not-false (free_of_threads d) q.1, none_of (program_at name d.programs) p.1, leb-false 255 (length d.programs) m.0, ok_same (with_program d name) e m.1)

closed_depth : (o : Option ℕ) → not (is_closed o) ≡ false → o ≡ Some 0
closed_depth None h = absurd (false≢true (sym h))
closed_depth (Some depth) h = ap (λ (x : ℕ). Some x) (eqb-true depth 0 (not-false (eqb depth 0) h))

pub end-told : (d e : Draft) → accept_end d ≡ Ok e → (p : Program) × (d.open_program ≡ Some p) × (depth_behind 0 p.operations ≡ Some 0) × (closed d p ≡ e)
unfolding accept_end
end-told d e h =
    let g = ok_given d.open_program why.Order (λ p. bad_if (not (is_closed (depth_behind 0 p.operations))) why.Nest (Ok (closed d p))) e h in
    let b = ok_bad_if (not (is_closed (depth_behind 0 g.0.operations))) why.Nest (Ok (closed d g.0)) e g.2 in
    (g.0, g.1, closed_depth (depth_behind 0 g.0.operations) b.0, ok_same (closed d g.0) e b.1)

pub thread-told : (d e : Draft) (prio : Numeral) (name : Word) → accept_thread d prio name ≡ Ok e → (priority program : ℕ) × (is_none d.table ≡ false) × (d.open_program ≡ None) × (free_of_events d ≡ true) × (prio ≡ exactly priority) × (priority ≤ 63) × (program_at name d.programs ≡ Some program) × (has_no_number d ≡ false) × (with_thread d priority program ≡ e)
unfolding accept_thread
thread-told d e prio name h =
    let b = ok_bad_if (is_none d.table || is_some d.open_program || not (free_of_events d)) why.Order (given (in_range 0 63 prio) why.Number λ priority. given (program_at name d.programs) why.Unknown λ program. bad_if (has_no_number d) why.Table (Ok (with_thread d priority program))) e h in
    let g = ok_given (in_range 0 63 prio) why.Number (λ priority. given (program_at name d.programs) why.Unknown λ program. bad_if (has_no_number d) why.Table (Ok (with_thread d priority program))) e b.1 in
    let u = ok_given (program_at name d.programs) why.Unknown (λ program. bad_if (has_no_number d) why.Table (Ok (with_thread d g.0 program))) e g.2 in
    let t = ok_bad_if (has_no_number d) why.Table (Ok (with_thread d g.0 u.0)) e u.2 in
    let p = or_parts (is_none d.table || is_some d.open_program) (not (free_of_events d)) b.0 in
    let q = or_parts (is_none d.table) (is_some d.open_program) p.0 in
    let r = ranged 0 63 prio g.0 (omega arith) g.1 in
    (g.0, u.0, q.0, none_of d.open_program q.1, not-false (free_of_events d) p.1, r.0, r.2, u.1, t.0, ok_same (with_thread d g.0 u.0) e t.1)

-- where an `at` line of the step stands
pub record Late (d : Draft) (k : Numeral) : Type 0 where
  pub unopened : d.open_program ≡ None
  pub some : is_nil d.threads ≡ false
  pub turns : d.turns ≡ []
  pub falls : falls d.at_lines k ≡ false

late-told : (d : Draft) (k : Numeral) → is_late d k ≡ false → Late d k
late-told d k h =
    let p = or_parts (is_some d.open_program || is_nil d.threads || not (is_nil d.turns)) (falls d.at_lines k) h in
    let q = or_parts (is_some d.open_program || is_nil d.threads) (not (is_nil d.turns)) p.0 in
    let r = or_parts (is_some d.open_program) (is_nil d.threads) q.0 in
    record { unopened = none_of d.open_program r.0; some = r.1; turns = nil_of d.turns (not-false (is_nil d.turns) q.1); falls = p.1 }

pub start-told : (d e : Draft) (k t : Numeral) → accept_start d k t ≡ Ok e → (step number : ℕ) × Late d k × (is_started d.at_lines t ≡ false) × (in_range 0 4294967295 k ≡ Some step) × (k ≡ exactly step) × (step ≤ 4294967295) × (t ≡ exactly number) × (number < length d.threads) × (length d.at_lines < 10000) × (with_event d step (what.Start number) ≡ e)
unfolding accept_start
start-told d e k t h =
    let b = ok_bad_if (is_late d k || is_started d.at_lines t) why.Order (given (in_range 0 4294967295 k) why.Number λ step. bad_if t.led why.Number (given (below (length d.threads) t) why.Table λ number. bad_if (is_full d) why.Many (Ok (with_event d step (what.Start number))))) e h in
    let g = ok_given (in_range 0 4294967295 k) why.Number (λ step. bad_if t.led why.Number (given (below (length d.threads) t) why.Table λ number. bad_if (is_full d) why.Many (Ok (with_event d step (what.Start number))))) e b.1 in
    let l = ok_bad_if t.led why.Number (given (below (length d.threads) t) why.Table λ number. bad_if (is_full d) why.Many (Ok (with_event d g.0 (what.Start number)))) e g.2 in
    let u = ok_given (below (length d.threads) t) why.Table (λ number. bad_if (is_full d) why.Many (Ok (with_event d g.0 (what.Start number)))) e l.1 in
    let m = ok_bad_if (is_full d) why.Many (Ok (with_event d g.0 (what.Start u.0))) e u.2 in
    let p = or_parts (is_late d k) (is_started d.at_lines t) b.0 in
    let r = ranged 0 4294967295 k g.0 (omega arith) g.1 in
    let s = lower (length d.threads) t u.0 l.0 u.1 in
    (g.0, u.0, late-told d k p.0, p.1, g.1, r.0, r.2, s.0, s.1, leb-false 10000 (length d.at_lines) m.0, ok_same (with_event d g.0 (what.Start u.0)) e m.1)

pub slice-told : (d e : Draft) (k c : Numeral) → accept_slice d k c ≡ Ok e → (step carrier : ℕ) × Late d k × (in_range 0 4294967295 k ≡ Some step) × (k ≡ exactly step) × (step ≤ 4294967295) × (c ≡ exactly carrier) × (carrier < carriers_of d) × (length d.at_lines < 10000) × (with_event d step (what.Slice carrier) ≡ e)
unfolding accept_slice
slice-told d e k c h =
    let b = ok_bad_if (is_late d k) why.Order (given (in_range 0 4294967295 k) why.Number λ step. bad_if c.led why.Number (given (below (carriers_of d) c) why.Table λ carrier. bad_if (is_full d) why.Many (Ok (with_event d step (what.Slice carrier))))) e h in
    let g = ok_given (in_range 0 4294967295 k) why.Number (λ step. bad_if c.led why.Number (given (below (carriers_of d) c) why.Table λ carrier. bad_if (is_full d) why.Many (Ok (with_event d step (what.Slice carrier))))) e b.1 in
    let l = ok_bad_if c.led why.Number (given (below (carriers_of d) c) why.Table λ carrier. bad_if (is_full d) why.Many (Ok (with_event d g.0 (what.Slice carrier)))) e g.2 in
    let u = ok_given (below (carriers_of d) c) why.Table (λ carrier. bad_if (is_full d) why.Many (Ok (with_event d g.0 (what.Slice carrier)))) e l.1 in
    let m = ok_bad_if (is_full d) why.Many (Ok (with_event d g.0 (what.Slice u.0))) e u.2 in
    let r = ranged 0 4294967295 k g.0 (omega arith) g.1 in
    let s = lower (carriers_of d) c u.0 l.0 u.1 in
    (g.0, u.0, late-told d k b.0, g.1, r.0, r.2, s.0, s.1, leb-false 10000 (length d.at_lines) m.0, ok_same (with_event d g.0 (what.Slice u.0)) e m.1)

pub operation-told : (d e : Draft) (o : OperationLine) → accept_operation d o ≡ Ok e → (p : Program) × (r : Operation) × (d.open_program ≡ Some p) × (misnests (depth_behind 0 p.operations) o ≡ false) × (operation_in (table_of d) d.programs o ≡ Ok r) × (length p.operations < 4096) × (with_operation d p r ≡ e)
unfolding accept_operation
operation-told d e o h =
    let g = ok_given d.open_program why.Order (λ p. bad_if (misnests (depth_behind 0 p.operations) o) why.Nest (on_ok (operation_in (table_of d) d.programs o) λ operation. bad_if (leb 4096 (length p.operations)) why.Many (Ok (with_operation d p operation)))) e h in
    let b = ok_bad_if (misnests (depth_behind 0 g.0.operations) o) why.Nest (on_ok (operation_in (table_of d) d.programs o) λ operation. bad_if (leb 4096 (length g.0.operations)) why.Many (Ok (with_operation d g.0 operation))) e g.2 in
    let r = ok_on_ok (operation_in (table_of d) d.programs o) (λ operation. bad_if (leb 4096 (length g.0.operations)) why.Many (Ok (with_operation d g.0 operation))) e b.1 in
    let m = ok_bad_if (leb 4096 (length g.0.operations)) why.Many (Ok (with_operation d g.0 r.0)) e r.2 in
    (g.0, r.0, g.1, b.0, r.1, leb-false 4096 (length g.0.operations) m.0, ok_same (with_operation d g.0 r.0) e m.1)

pub turns-told : (d e : Draft) (ws : List ItemWord) → accept_turns d ws ≡ Ok e → (more : List Item) × (d.open_program ≡ None) × (is_nil d.threads ≡ false) × (2 ≤ carriers_of d) × (list_all has_numbers ws ≡ true) × (items_in (carriers_of d) ws ≡ Some more) × (are_many d.turns more ≡ false) × (record d { turns = d.turns ++ more } ≡ e)
unfolding accept_turns
turns-told d e ws h =
    let b = ok_bad_if (is_some d.open_program || is_nil d.threads || ltb (carriers_of d) 2) why.Order (bad_if (not (list_all has_numbers ws)) why.Number (given (items_in (carriers_of d) ws) why.Table λ more. bad_if (are_many d.turns more) why.Many (Ok (record d { turns = d.turns ++ more })))) e h in
    let n = ok_bad_if (not (list_all has_numbers ws)) why.Number (given (items_in (carriers_of d) ws) why.Table λ more. bad_if (are_many d.turns more) why.Many (Ok (record d { turns = d.turns ++ more }))) e b.1 in
    let g = ok_given (items_in (carriers_of d) ws) why.Table (λ more. bad_if (are_many d.turns more) why.Many (Ok (record d { turns = d.turns ++ more }))) e n.1 in
    let m = ok_bad_if (are_many d.turns g.0) why.Many (Ok (record d { turns = d.turns ++ g.0 })) e g.2 in
    let p = or_parts (is_some d.open_program || is_nil d.threads) (ltb (carriers_of d) 2) b.0 in
    let q = or_parts (is_some d.open_program) (is_nil d.threads) p.0 in
    (g.0, none_of d.open_program q.0, q.1, ltb-false (carriers_of d) 2 p.1, not-false (list_all has_numbers ws) n.0, g.1, m.0, ok_same (record d { turns = d.turns ++ g.0 }) e m.1)
