-- Each line that is taken in keeps the limits.
use Rattle.std.proofs.Common.{◌≡◌, ℕ, ◌+◌, ◌-◌, ◌<◌, ◌≤◌, true, false, not, eqb, leb, ltb, List, [], ◌∷◌, ◌++◌, length, refl, sym, ◌∙◌, subst, arith, Option, Some, None, Ok, is_some, is_none}
use Rattle.std.specs.Prelude.{slice_get, slice_index}
use Rattle.std.specs.List.{AllByRecursion, IsDistinct, sum_by, list_any}
use Rattle.std.specs.Option.{IfSome}
use Rattle.std.proofs.lemmas.Bool.{or_parts, ltb-false, leb-false, eqb-true, not-false, false≢true, ne_eqb, eq-eqb}
use Rattle.std.proofs.lemmas.List.{append-nil, length_push}
use Rattle.std.proofs.lemmas.List.Sums.{sum_by-append}
use Rattle.k_lists.proofs.Distinct.{distinct_push}
use Rattle.k_script.specs.declared.lines.ThreadLine.{ThreadLine}
use Rattle.k_script.specs.declared.lines.AtWhat.{AtWhat}
use Rattle.k_script.specs.declared.lines.AtWhat.TheVariants as what
use Rattle.k_script.specs.declared.lines.AtLine.{AtLine}
use Rattle.k_script.specs.declared.lines.Item.{Item}
use Rattle.k_script.specs.declared.operation.Operation.{Operation}
use Rattle.k_script.specs.Script.{Program}
use Rattle.k_script.specs.Limits.{is_name, depth_after, depth_behind, IsEvent, started, started_by, steps_of}
use Rattle.k_lines.specs.declared.numeral.Numeral.{Numeral}
use Rattle.k_lines.specs.declared.line.ItemWord.{ItemWord}
use Rattle.k_lines.specs.declared.line.OperationLine.{OperationLine}
use Rattle.k_lines.specs.declared.line.Line.{Line}
use Rattle.k_lines.specs.declared.line.Line.TheVariants as line
use Rattle.k_lines.specs.Numbers.{in_range, exactly}
use Rattle.k_lines.specs.Lines.{Word, IsNamed}
use Rattle.k_reader.specs.Draft.{Draft, table_of, carriers_of, is_nil, is_number, falls_behind}
use Rattle.k_reader.specs.Reading.{misnests, operation_in, accept_operation, accept_table, accept_carriers, accept_show, accept_aged, accept_program, accept_end, accept_thread, with_event, accept_start, accept_slice, accept, accept_turns}
use Rattle.k_reader.proofs.Nesting.{pushed, nests}
use Rattle.k_reader.proofs.Resolved.{resolved, thread_named, items-resolved}
use Rattle.k_reader.proofs.Within.{Programs, IsWithin, programs_empty, threads_empty, schedule_empty, ages_set_first, ages_more, program_begun, program_more, program_closed, threads_more, event_more, turns_more}
use Rattle.k_reader.proofs.Kept.{no_none, free_events, free_threads, free_programs, free_show, table-told, carriers-told, show-told, aged-told, program-told, end-told, thread-told, start-told, slice-told, operation-told, turns-told}

-- no table, where there is one
no_table : {A : Type 0} (d : Draft) → is_none d.table ≡ false → d.table ≡ None → A
no_table d h e = absurd (no_none d.table h e)

-- no open program, where there is none
no_open : {A : Type 0} (d : Draft) → d.open_program ≡ None → is_some d.open_program ≡ true → A
no_open d h e = let no : is_some d.open_program ≡ false = rw h refl in absurd (false≢true (sym no ∙ e))

table-keeps : (d e : Draft) (n : Numeral) → IsWithin d → accept_table d n ≡ Ok e → IsWithin e
table-keeps d e n w h =
    let t = table-told d e n h in
    let f = w.first t.1 in
    let bare = f.2 in
    subst IsWithin t.5 (record {
      version = w.version;
      table = (t.3, t.4);
      carriers = w.carriers;
      ages = w.ages;
      programs = programs_empty t.0 d.programs d.open_program f.0 f.1;
      threads = threads_empty t.0 (length d.programs) d.threads bare.threads;
      schedule = w.schedule;
      first = λ q. absurd cc;
      last = w.last;
    })

carriers-keeps : (d e : Draft) (n : Numeral) → IsWithin d → accept_carriers d n ≡ Ok e → IsWithin e
carriers-keeps d e n w h =
    let t = carriers-told d e n h in
    let f = free_show d t.3 in
    let bare = f.4 in
    subst IsWithin t.7 (record {
      version = w.version;
      table = w.table;
      carriers = (t.5, t.6);
      ages = w.ages;
      programs = w.programs;
      threads = w.threads;
      schedule = schedule_empty t.0 (length d.threads) d.at_lines d.turns bare.at_lines bare.turns;
      first = w.first;
      last = w.last;
    })

show-keeps : (d e : Draft) → IsWithin d → accept_show d ≡ Ok e → IsWithin e
show-keeps d e w h =
    let t = show-told d e h in
    subst IsWithin t.2 (record { version = w.version; table = w.table; carriers = w.carriers; ages = w.ages; programs = w.programs; threads = w.threads; schedule = w.schedule; first = w.first; last = w.last })

aged-keeps : (d e : Draft) (n v : Numeral) → IsWithin d → accept_aged d n v ≡ Ok e → IsWithin e
aged-keeps d e n v w h =
    let t = aged-told d e n v h in
    let f = free_programs d t.3 in
    let bare = f.2 in
    subst IsWithin t.10 (record {
      version = w.version;
      table = w.table;
      carriers = w.carriers;
      ages = ages_set_first d.aged d.threads t.0 t.1 bare.threads w.ages t.9;
      programs = w.programs;
      threads = w.threads;
      schedule = w.schedule;
      first = w.first;
      last = w.last;
    })

program-keeps : (d e : Draft) (name : Word) → IsWithin d → is_name name ≡ true → accept_program d name ≡ Ok e → IsWithin e
program-keeps d e name w good h =
    let t = program-told d e name h in
    let none : Programs (table_of d) d.programs None = subst (Programs (table_of d) d.programs) t.1 w.programs in
    subst IsWithin t.5 (record {
      version = w.version;
      table = w.table;
      carriers = w.carriers;
      ages = w.ages;
      programs = program_begun (table_of d) d.programs name none t.4 t.3 good;
      threads = w.threads;
      schedule = w.schedule;
      first = λ q. no_table d t.0 q;
      last = λ _. let b = free_threads d t.2 in record { threads = b.threads; at_lines = b.at_lines; turns = b.turns };
    })

is_open : (d : Draft) (p : Program) → d.open_program ≡ Some p → is_some d.open_program ≡ true
is_open d p h = rw h refl

-- where a program is open there is a table
open_table : {A : Type 0} (d : Draft) (p : Program) → IsWithin d → d.open_program ≡ Some p → d.table ≡ None → A
open_table d p w o t = let no : Some p ≡ None = sym o ∙ (w.first t).1 in absurd cc

end-keeps : (d e : Draft) → IsWithin d → accept_end d ≡ Ok e → IsWithin e
end-keeps d e w h =
    let t = end-told d e h in
    let some : Programs (table_of d) d.programs (Some t.0) = subst (Programs (table_of d) d.programs) t.1 w.programs in
    let bare = w.last (is_open d t.0 t.1) in
    subst IsWithin t.3 (record {
      version = w.version;
      table = w.table;
      carriers = w.carriers;
      ages = w.ages;
      programs = program_closed (table_of d) d.programs t.0 some t.2;
      threads = threads_empty (table_of d) (length (d.programs ++ t.0 ∷ [])) d.threads bare.threads;
      schedule = w.schedule;
      first = λ q. open_table d t.0 w t.1 q;
      last = λ q. absurd (false≢true q);
    })

thread-keeps : (d e : Draft) (n : Numeral) (name : Word) → IsWithin d → accept_thread d n name ≡ Ok e → IsWithin e
thread-keeps d e n name w h =
    let t = thread-told d e n name h in
    let f = free_events d t.4 in
    let room = or_parts (leb (table_of d) (length d.threads)) (not (eqb (slice_index d.aged (length d.threads)) 0)) t.8 in
    let fresh = eqb-true (slice_index d.aged (length d.threads)) 0 (not-false (eqb (slice_index d.aged (length d.threads)) 0) room.1) in
    let line : ThreadLine = record { priority = t.0; program = t.1 } in
    let found = thread_named d.programs name t.1 t.7 in
    subst IsWithin t.9 (record {
      version = w.version;
      table = w.table;
      carriers = w.carriers;
      ages = ages_more d.aged (length d.threads) (length (d.threads ++ line ∷ [])) (length_push d.threads line) w.ages fresh;
      programs = w.programs;
      threads = threads_more (table_of d) (length d.programs) d.threads line w.threads (leb-false (table_of d) (length d.threads) room.0) (record { priority = t.6; program = found.0 });
      schedule = schedule_empty (carriers_of d) (length (d.threads ++ line ∷ [])) d.at_lines d.turns f.0 f.1;
      first = λ q. no_table d t.2 q;
      last = λ q. no_open d t.3 q;
    })

-- a step that doesn't fall behind the last line
steady : (o : Option AtLine) (k : Numeral) (step : ℕ) → in_range 0 4294967295 k ≡ Some step → falls_behind o (in_range 0 4294967295 k) ≡ false → IfSome o (λ b. b.step ≤ step)
steady None k step r f = tt
steady (Some a) k step r f = let g : ltb step a.step ≡ false = sym (rw r refl) ∙ f in ltb-false step a.step g

-- a draft with one more event
event-keeps : (d e : Draft) (step : ℕ) (w : AtWhat) → IsWithin d → d.open_program ≡ None → is_nil d.threads ≡ false → IfSome (slice_get d.at_lines (length d.at_lines - 1)) (λ b. b.step ≤ step) → step ≤ 4294967295 → length d.at_lines < 10000 → IsEvent (carriers_of d) (length d.threads) w → IsDistinct (λ a b. eqb a b) (started d.at_lines ++ started_by w) → with_event d step w ≡ e → IsWithin e
event-keeps d e step event w unopened some late low room fits once same =
    let line : AtLine = record { step = step; what = event } in
    subst IsWithin same (record {
      version = w.version;
      table = w.table;
      carriers = w.carriers;
      ages = w.ages;
      programs = w.programs;
      threads = w.threads;
      schedule = event_more (carriers_of d) (length d.threads) d.at_lines d.turns line w.schedule room (record { step = low; event = fits }) late once;
      first = λ q. let bare = (w.first q).2 in let no : is_nil d.threads ≡ true = rw bare.threads refl in absurd (false≢true (sym some ∙ no));
      last = λ q. no_open d unopened q;
    })

-- none of these is the number
unlike : (n : ℕ) (ks : List ℕ) → list_any (is_number (exactly n)) ks ≡ false → AllByRecursion (λ k. eqb k n ≡ false) ks
unlike n [] h = tt
unlike n (k ∷ ks) h =
    let p = or_parts (eqb n k) (list_any (is_number (exactly n)) ks) h in
    (ne_eqb k n (λ e. absurd (false≢true (sym p.0 ∙ same k e))), unlike n ks p.1)
  where
    same : (k : ℕ) → k ≡ n → eqb n k ≡ true
    same k e = eq-eqb n k (sym e)

start-keeps : (d e : Draft) (k n : Numeral) → IsWithin d → accept_start d k n ≡ Ok e → IsWithin e
start-keeps d e k n w h =
    let t = start-told d e k n h in
    let late = t.2 in
    let other : list_any (is_number (exactly t.1)) (started d.at_lines) ≡ false = subst (λ (m : Numeral). list_any (is_number m) (started d.at_lines) ≡ false) t.7 t.3 in
    event-keeps d e t.0 (what.Start t.1) w late.unopened late.some (steady (slice_get d.at_lines (length d.at_lines - 1)) k t.0 t.4 late.falls) t.6 t.9 t.8
    (distinct_push (λ a b. eqb a b) (started d.at_lines) t.1 w.schedule.at_lines.once (unlike t.1 (started d.at_lines) other)) t.10

slice-keeps : (d e : Draft) (k c : Numeral) → IsWithin d → accept_slice d k c ≡ Ok e → IsWithin e
slice-keeps d e k c w h =
    let t = slice-told d e k c h in
    let late = t.2 in
    event-keeps d e t.0 (what.Slice t.1) w late.unopened late.some (steady (slice_get d.at_lines (length d.at_lines - 1)) k t.0 t.3 late.falls) t.5 t.8 t.7
    (subst (IsDistinct (λ a b. eqb a b)) (sym (append-nil (started d.at_lines))) w.schedule.at_lines.once) t.9

-- how many repeats are open behind one more operation
stays_nested : (table : ℕ) (ps : List Program) (ops : List Operation) (o : OperationLine) (r : Operation) → is_some (depth_behind 0 ops) ≡ true → misnests (depth_behind 0 ops) o ≡ false → operation_in table ps o ≡ Ok r → is_some (depth_behind 0 (ops ++ r ∷ [])) ≡ true
stays_nested table ps ops o r s m h = go (depth_behind 0 ops) refl s m
  where
    end : (d : ℕ) (q : Option ℕ) → depth_behind 0 ops ≡ Some d → depth_after d r ≡ q → is_some q ≡ true → is_some (depth_behind 0 (ops ++ r ∷ [])) ≡ true
    end d None a b c = absurd (false≢true c)
    end d (Some f) a b c = rw (pushed d f ops r a b) refl

    go : (q : Option ℕ) → depth_behind 0 ops ≡ q → is_some q ≡ true → misnests q o ≡ false → is_some (depth_behind 0 (ops ++ r ∷ [])) ≡ true
    go None a b c = absurd (false≢true b)
    go (Some d) a b c = end d (depth_after d r) a refl (nests table d ps o r c h)

operation-keeps : (d e : Draft) (o : OperationLine) → IsWithin d → accept_operation d o ≡ Ok e → IsWithin e
operation-keeps d e o w h =
    let t = operation-told d e o h in
    let some : Programs (table_of d) d.programs (Some t.0) = subst (Programs (table_of d) d.programs) t.2 w.programs in
    let bare = w.last (is_open d t.0 t.2) in
    let r = resolved (table_of d) d.programs o t.1 t.4 in
    subst IsWithin t.6 (record {
      version = w.version;
      table = w.table;
      carriers = w.carriers;
      ages = w.ages;
      programs = program_more (table_of d) d.programs t.0 t.1 some t.5 (stays_nested (table_of d) d.programs t.0.operations o t.1 some.begun.nested t.3 t.4) r.0;
      threads = w.threads;
      schedule = w.schedule;
      first = λ q. open_table d t.0 w t.2 q;
      last = λ _. record { threads = bare.threads; at_lines = bare.at_lines; turns = bare.turns };
    })

pub line-keeps : (d e : Draft) (l : Line) → IsWithin d → IsNamed l → accept d l ≡ Ok e → IsWithin e
unfolding accept
line-keeps d e (line.Kernel version) w n h = absurd cc
line-keeps d e (line.Table size) w n h = table-keeps d e size w h
line-keeps d e (line.Carriers count) w n h = carriers-keeps d e count w h
line-keeps d e line.ShowSteps w n h = show-keeps d e w h
line-keeps d e (line.Aged number version) w n h = aged-keeps d e number version w h
line-keeps d e (line.Program name) w n h = program-keeps d e name w n h
line-keeps d e line.End w n h = end-keeps d e w h
line-keeps d e (line.Thread priority program) w n h = thread-keeps d e priority program w h
line-keeps d e (line.Start step number) w n h = start-keeps d e step number w h
line-keeps d e (line.Slice step carrier) w n h = slice-keeps d e step carrier w h
line-keeps d e (line.Operation o) w n h = operation-keeps d e o w h

sums : (xs ys : List Item) → sum_by steps_of (xs ++ ys) ≡ sum_by steps_of xs + sum_by steps_of ys
sums xs ys = sum_by-append steps_of xs ys

pub turns-keeps : (d e : Draft) (ws : List ItemWord) → IsWithin d → accept_turns d ws ≡ Ok e → IsWithin e
turns-keeps d e ws w h =
    let t = turns-told d e ws h in
    let m = or_parts (ltb 10000 (length d.turns + length t.0)) (ltb 1000000 (sum_by steps_of d.turns + sum_by steps_of t.0)) t.6 in
    let few = ltb-false 10000 (length d.turns + length t.0) m.0 in
    let bounded = ltb-false 1000000 (sum_by steps_of d.turns + sum_by steps_of t.0) m.1 in
    let all = items-resolved (carriers_of d) ws t.0 t.4 t.5 in
    subst IsWithin t.7 (record {
      version = w.version;
      table = w.table;
      carriers = w.carriers;
      ages = w.ages;
      programs = w.programs;
      threads = w.threads;
      schedule = turns_more (carriers_of d) (length d.threads) d.at_lines d.turns t.0 w.schedule all.0 few (omega (arith, sums d.turns t.0, bounded)) t.3;
      first = λ q. let bare = (w.first q).2 in let no : is_nil d.threads ≡ true = rw bare.threads refl in absurd (false≢true (sym t.2 ∙ no));
      last = λ q. no_open d t.1 q;
    })
