-- What a line that is taken in adds to the lines of a draft.
use Rattle.std.proofs.Common.{◌≡◌, ℕ, ◌<◌, ◌≤◌, Bool, true, false, eqb, List, [], ◌∷◌, ◌++◌, length, replicate, refl, sym, ap, ◌∙◌, subst, arith, Option, Some, None, Ok, unwrap_or, is_some}
use Rattle.std.specs.Prelude.{slice_index, slice_set}
use Rattle.std.specs.List.{flat_map, AllByRecursion, IsDistinct, list_all}
use Rattle.std.specs.Option.{IfSome}
use Rattle.std.proofs.lemmas.Bool.{lt-ltb, not-true, eqb-true, false≢true}
use Rattle.std.proofs.lemmas.List.{map_push, length-replicate}
use Rattle.k_lists.proofs.Distinct.{distinct_push}
use Rattle.k_lists.proofs.All.{all_push}
use Rattle.k_script.specs.declared.lines.AtWhat.{AtWhat}
use Rattle.k_script.specs.declared.lines.AtWhat.TheVariants as what
use Rattle.k_script.specs.declared.lines.Item.{Item}
use Rattle.k_script.specs.Script.{Program, program_in}
use Rattle.k_lines.specs.declared.numeral.Numeral.{Numeral}
use Rattle.k_lines.specs.declared.line.OperationLine.{OperationLine}
use Rattle.k_lines.specs.declared.line.Line.{Line}
use Rattle.k_lines.specs.declared.line.Line.TheVariants as line
use Rattle.k_lines.specs.Numbers.{exactly}
use Rattle.k_lines.specs.Lines.{Word, IsProper, IsProperOperation}
use Rattle.k_reader.specs.Draft.{Draft, table_of, carriers_of, is_zero, is_aged}
use Rattle.k_reader.specs.Reading.{accept, accept_table, accept_carriers, accept_show, accept_aged, accept_program, accept_end, accept_thread, accept_start, accept_slice, accept_operation, with_event}
use Rattle.k_reader.specs.Grammar.{Age, IsAge, aged_by, numbers_of, event_line}
use Rattle.k_reader.proofs.Resolved.{resolved, thread_named}
use Rattle.k_reader.proofs.Proper.{proper_by, operation-proper}
use Rattle.k_reader.proofs.Aging.{aged-push, unaged, no_ages}
use Rattle.k_reader.proofs.Within.{Programs, IsWithin}
use Rattle.k_reader.proofs.Kept.{no_none, free_events, free_threads, free_programs, free_show, table-told, carriers-told, show-told, aged-told, program-told, end-told, thread-told, start-told, slice-told, operation-told}
use Rattle.k_reader.proofs.Laid.{draft_lines, table-line, carriers-line, show-line, aged-line, program-line, operation-line, end-line, thread-line, event-line}

-- the `aged` lines of a draft and its turns lines
pub record Laid (table carriers : Option ℕ) (show : Bool) (aged : List ℕ) (turns : List Item) (ages : List Age) (splits : List (List Item)) : Type 0 where
  pub first : table ≡ None → (carriers ≡ None) × (show ≡ false) × (ages ≡ [])
  pub apart : IsDistinct (λ a b. eqb a b) (numbers_of ages)
  pub each : AllByRecursion (IsAge (unwrap_or table 0)) ages
  pub versions : aged ≡ aged_by ages (replicate 64 0)
  pub joined : flat_map (λ items. items) splits ≡ turns
  pub some : AllByRecursion (λ (items : List Item). 1 ≤ length items) splits

abbrev pub IsLaid : Draft → List Age → List (List Item) → Type 0
IsLaid d ages splits = Laid d.table d.carriers d.show_steps d.aged d.turns ages splits

pub record Step (d e : Draft) (ages : List Age) (splits : List (List Item)) (l : Line) : Type 0 where
  pub more : List Age
  pub laid : IsLaid e more splits
  pub none : d.turns ≡ []
  pub proper : IsProper l
  pub follows : draft_lines e more ≡ draft_lines d ages ++ l ∷ []

pub table_small : (d : Draft) → IsWithin d → table_of d ≤ 64
table_small d w = go d.table w.table
  where
    go : (o : Option ℕ) → IfSome o (λ n. (1 ≤ n) × (n ≤ 64)) → unwrap_or o 0 ≤ 64
    go None h = omega arith
    go (Some n) h = h.1

pub carriers_small : (d : Draft) → IsWithin d → carriers_of d ≤ 8
carriers_small d w = go d.carriers w.carriers
  where
    go : (o : Option ℕ) → IfSome o (λ n. (1 ≤ n) × (n ≤ 8)) → unwrap_or o 1 ≤ 8
    go None h = omega arith
    go (Some n) h = h.1

abbrev thread_name : Draft → ℕ → Word
thread_name d k = (program_in d.programs k).name

ages_small : (size : ℕ) (ages : List Age) → size ≤ 64 → AllByRecursion (IsAge size) ages → AllByRecursion (IsAge (length {A = ℕ} (replicate 64 0))) ages
ages_small size [] l h = tt
ages_small size (a ∷ ages) l h = let inside = h.0.number in (record { number = omega (arith, inside, l, length-replicate {A = ℕ} 64 0); version = h.0.version }, ages_small size ages l h.1)

-- no versions, no lines
none_aged : (d : Draft) (ages : List Age) (splits : List (List Item)) → IsWithin d → IsLaid d ages splits → list_all is_zero d.aged ≡ true → ages ≡ []
none_aged d ages splits w i z = no_ages ages (replicate 64 0) (ages_small (table_of d) ages (table_small d w) i.each) i.apart (ap (list_all is_zero) (sym i.versions) ∙ z)

ages_empty : (ages : List Age) (size : ℕ) → ages ≡ [] → AllByRecursion (IsAge size) ages
ages_empty ages size e = rw e tt

table-follows : (d e : Draft) (ages : List Age) (splits : List (List Item)) (n : Numeral) → IsWithin d → IsLaid d ages splits → accept_table d n ≡ Ok e → Step d e ages splits (line.Table n)
table-follows d e ages splits n w i h =
    let t = table-told d e n h in
    let f = w.first t.1 in
    let g = i.first t.1 in
    let bare = f.2 in
    let small = t.4 in
    subst (λ (x : Draft). Step d x ages splits (line.Table n)) t.5 (record {
      more = ages;
      laid = record { first = λ q. absurd cc; apart = i.apart; each = ages_empty ages t.0 g.2; versions = i.versions; joined = i.joined; some = i.some };
      none = bare.turns;
      proper = proper_by n t.0 t.2 (omega (arith, small));
      follows = table-line d.version t.0 d.table d.carriers d.show_steps ages d.programs d.open_program d.threads d.at_lines t.1 g.0 g.1 g.2 f.0 f.1 bare.threads bare.at_lines ∙ ap (λ (m : Numeral). draft_lines d ages ++ line.Table m ∷ []) (sym t.2);
    })

carriers-follows : (d e : Draft) (ages : List Age) (splits : List (List Item)) (n : Numeral) → IsWithin d → IsLaid d ages splits → accept_carriers d n ≡ Ok e → Step d e ages splits (line.Carriers n)
carriers-follows d e ages splits n w i h =
    let t = carriers-told d e n h in
    let f = free_show d t.3 in
    let bare = f.4 in
    let small = t.6 in
    subst (λ (x : Draft). Step d x ages splits (line.Carriers n)) t.7 (record {
      more = ages;
      laid = record { first = λ q. absurd (no_none d.table t.1 q); apart = i.apart; each = i.each; versions = i.versions; joined = i.joined; some = i.some };
      none = bare.turns;
      proper = proper_by n t.0 t.4 (omega (arith, small));
      follows = carriers-line d.version t.0 d.table d.carriers d.show_steps ages d.programs d.open_program d.threads d.at_lines t.2 (not-true d.show_steps f.0) (none_aged d ages splits w i f.1) f.2 f.3 bare.threads bare.at_lines ∙ ap (λ (m : Numeral). draft_lines d ages ++ line.Carriers m ∷ []) (sym t.4);
    })

show-follows : (d e : Draft) (ages : List Age) (splits : List (List Item)) → IsWithin d → IsLaid d ages splits → accept_show d ≡ Ok e → Step d e ages splits line.ShowSteps
show-follows d e ages splits w i h =
    let t = show-told d e h in
    let f = free_show d t.1 in
    let bare = f.4 in
    subst (λ (x : Draft). Step d x ages splits line.ShowSteps) t.2 (record {
      more = ages;
      laid = record { first = λ q. absurd (no_none d.table t.0 q); apart = i.apart; each = i.each; versions = i.versions; joined = i.joined; some = i.some };
      none = bare.turns;
      proper = tt;
      follows = show-line d.version d.table d.carriers d.show_steps ages d.programs d.open_program d.threads d.at_lines (not-true d.show_steps f.0) (none_aged d ages splits w i f.1) f.2 f.3 bare.threads bare.at_lines;
    })

-- A number without a version that isn't aged.
not_aged : (versions : List ℕ) (n : ℕ) → n < 64 → is_aged versions (exactly n) ≡ false → slice_index versions n ≡ 0
not_aged versions n l h = go (eqb (slice_index versions n) 0) refl
  where
    go : (b : Bool) → eqb (slice_index versions n) 0 ≡ b → slice_index versions n ≡ 0
    go true e = eqb-true (slice_index versions n) 0 e
    go false e = let no : is_aged versions (exactly n) ≡ true = rw (lt-ltb n 64 l) (rw e refl) in absurd (false≢true (sym h ∙ no))

aged-follows : (d e : Draft) (ages : List Age) (splits : List (List Item)) (n v : Numeral) → IsWithin d → IsLaid d ages splits → accept_aged d n v ≡ Ok e → Step d e ages splits (line.Aged n v)
aged-follows d e ages splits n v w i h =
    let t = aged-told d e n v h in
    let f = free_programs d t.3 in
    let bare = f.2 in
    let small = table_small d w in
    let inside = t.6 in
    let high = t.9 in
    let a : Age = record { number = t.0; version = t.1 } in
    let other : is_aged d.aged (exactly t.0) ≡ false = subst (λ (m : Numeral). is_aged d.aged m ≡ false) t.5 t.4 in
    let zeroed = not_aged d.aged t.0 (omega (arith, inside, small)) other in
    let free = unaged ages (replicate 64 0) t.0 (ages_small (table_of d) ages small i.each) i.apart (ap (λ (vs : List ℕ). slice_index vs t.0) (sym i.versions) ∙ zeroed) in
    let one = t.5 in
    let two = t.7 in
    subst (λ (x : Draft). Step d x ages splits (line.Aged n v)) t.10 (record {
      more = ages ++ a ∷ [];
      laid = record {
        first = λ q. absurd (no_none d.table t.2 q);
        apart = subst (IsDistinct (λ a b. eqb a b)) (sym (map_push (λ b. b.number) ages a)) (distinct_push (λ a b. eqb a b) (numbers_of ages) t.0 i.apart free);
        each = all_push (IsAge (table_of d)) ages a i.each (record { number = inside; version = (t.8, high) });
        versions = ap (λ (vs : List ℕ). slice_set vs t.0 t.1) i.versions ∙ sym (aged-push ages a (replicate 64 0));
        joined = i.joined;
        some = i.some;
      };
      none = bare.turns;
      proper = (proper_by n t.0 one (omega (arith, inside, small)), proper_by v t.1 two (omega (arith, high)));
      follows = aged-line d.version d.table d.carriers d.show_steps ages a d.programs d.open_program d.threads d.at_lines f.0 f.1 bare.threads bare.at_lines ∙ ap (λ (m : Numeral). draft_lines d ages ++ line.Aged m (exactly t.1) ∷ []) (sym one) ∙ ap (λ (m : Numeral). draft_lines d ages ++ line.Aged n m ∷ []) (sym two);
    })

program-follows : (d e : Draft) (ages : List Age) (splits : List (List Item)) (name : Word) → IsLaid d ages splits → accept_program d name ≡ Ok e → Step d e ages splits (line.Program name)
program-follows d e ages splits name i h =
    let t = program-told d e name h in
    let bare = free_threads d t.2 in
    subst (λ (x : Draft). Step d x ages splits (line.Program name)) t.5 (record {
      more = ages;
      laid = i;
      none = bare.turns;
      proper = tt;
      follows = program-line d.version d.table d.carriers d.show_steps ages d.programs d.open_program name d.threads d.at_lines t.1 bare.threads bare.at_lines;
    })

is_open : (d : Draft) (p : Program) → d.open_program ≡ Some p → is_some d.open_program ≡ true
is_open d p h = rw h refl

end-follows : (d e : Draft) (ages : List Age) (splits : List (List Item)) → IsWithin d → IsLaid d ages splits → accept_end d ≡ Ok e → Step d e ages splits line.End
end-follows d e ages splits w i h =
    let t = end-told d e h in
    let bare = w.last (is_open d t.0 t.1) in
    let some : Programs (table_of d) d.programs (Some t.0) = subst (Programs (table_of d) d.programs) t.1 w.programs in
    subst (λ (x : Draft). Step d x ages splits line.End) t.3 (record {
      more = ages;
      laid = i;
      none = bare.turns;
      proper = tt;
      follows = end-line (table_of d) d.version d.table d.carriers d.show_steps ages d.programs d.open_program t.0 d.threads d.at_lines some.all some.begun.operations t.1 bare.threads bare.at_lines;
    })

thread-follows : (d e : Draft) (ages : List Age) (splits : List (List Item)) (n : Numeral) (name : Word) → IsLaid d ages splits → accept_thread d n name ≡ Ok e → Step d e ages splits (line.Thread n name)
thread-follows d e ages splits n name i h =
    let t = thread-told d e n name h in
    let f = free_events d t.4 in
    let small = t.6 in
    let found = thread_named d.programs name t.1 t.7 in
    subst (λ (x : Draft). Step d x ages splits (line.Thread n name)) t.9 (record {
      more = ages;
      laid = i;
      none = f.1;
      proper = proper_by n t.0 t.5 (omega (arith, small));
      follows = thread-line d.version d.table d.carriers d.show_steps ages d.programs d.open_program d.threads (record { priority = t.0; program = t.1 }) d.at_lines f.0 ∙ ap (λ (m : Numeral). draft_lines d ages ++ line.Thread m (thread_name d t.1) ∷ []) (sym t.5) ∙ ap (λ (m : Word). draft_lines d ages ++ line.Thread n m ∷ []) found.1;
    })

event-follows : (d e : Draft) (ages : List Age) (splits : List (List Item)) (step : ℕ) (event : AtWhat) (l : Line) → IsLaid d ages splits → d.turns ≡ [] → IsProper l → event_line step event ≡ l → with_event d step event ≡ e → Step d e ages splits l
event-follows d e ages splits step event l i none proper says same =
    subst (λ (x : Draft). Step d x ages splits l) same (record {
      more = ages;
      laid = i;
      none = none;
      proper = proper;
      follows = event-line d.version d.table d.carriers d.show_steps ages d.programs d.open_program d.threads d.at_lines (record { step = step; what = event }) ∙ ap (λ (m : Line). draft_lines d ages ++ m ∷ []) says;
    })

start-follows : (d e : Draft) (ages : List Age) (splits : List (List Item)) (k n : Numeral) → IsWithin d → IsLaid d ages splits → accept_start d k n ≡ Ok e → Step d e ages splits (line.Start k n)
start-follows d e ages splits k n w i h =
    let t = start-told d e k n h in
    let small = table_small d w in
    let few = w.threads.few in
    let inside = t.8 in
    let one = t.5 in
    let two = t.7 in
    event-follows d e ages splits t.0 (what.Start t.1) (line.Start k n) i t.2.turns (proper_by k t.0 one t.6, proper_by n t.1 two (omega (arith, small, few, inside))) (cc) t.10

slice-follows : (d e : Draft) (ages : List Age) (splits : List (List Item)) (k c : Numeral) → IsWithin d → IsLaid d ages splits → accept_slice d k c ≡ Ok e → Step d e ages splits (line.Slice k c)
slice-follows d e ages splits k c w i h =
    let t = slice-told d e k c h in
    let small = carriers_small d w in
    let inside = t.7 in
    let one = t.4 in
    let two = t.6 in
    event-follows d e ages splits t.0 (what.Slice t.1) (line.Slice k c) i t.2.turns (proper_by k t.0 one t.5, proper_by c t.1 two (omega (arith, small, inside))) (cc) t.9

operation-follows : (d e : Draft) (ages : List Age) (splits : List (List Item)) (o : OperationLine) → IsWithin d → IsLaid d ages splits → accept_operation d o ≡ Ok e → Step d e ages splits (line.Operation o)
operation-follows d e ages splits o w i h =
    let t = operation-told d e o h in
    let bare = w.last (is_open d t.0 t.2) in
    let r = resolved (table_of d) d.programs o t.1 t.4 in
    subst (λ (x : Draft). Step d x ages splits (line.Operation o)) t.6 (record {
      more = ages;
      laid = i;
      none = bare.turns;
      proper = subst IsProperOperation (sym r.1) (operation-proper (table_of d) (length d.programs) d.programs t.1 (table_small d w) r.0);
      follows = operation-line d.version d.table d.carriers d.show_steps ages d.programs d.open_program t.0 t.1 d.threads d.at_lines t.2 bare.threads bare.at_lines ∙ ap (λ (m : OperationLine). draft_lines d ages ++ line.Operation m ∷ []) (sym r.1);
    })

pub line-follows : (d e : Draft) (ages : List Age) (splits : List (List Item)) (l : Line) → IsWithin d → IsLaid d ages splits → accept d l ≡ Ok e → Step d e ages splits l
unfolding accept
line-follows d e ages splits (line.Kernel version) w i h = absurd cc
line-follows d e ages splits (line.Table size) w i h = table-follows d e ages splits size w i h
line-follows d e ages splits (line.Carriers count) w i h = carriers-follows d e ages splits count w i h
line-follows d e ages splits line.ShowSteps w i h = show-follows d e ages splits w i h
line-follows d e ages splits (line.Aged number version) w i h = aged-follows d e ages splits number version w i h
line-follows d e ages splits (line.Program name) w i h = program-follows d e ages splits name i h
line-follows d e ages splits line.End w i h = end-follows d e ages splits w i h
line-follows d e ages splits (line.Thread priority program) w i h = thread-follows d e ages splits priority program i h
line-follows d e ages splits (line.Start step number) w i h = start-follows d e ages splits step number w i h
line-follows d e ages splits (line.Slice step carrier) w i h = slice-follows d e ages splits step carrier w i h
line-follows d e ages splits (line.Operation o) w i h = operation-follows d e ages splits o w i h
