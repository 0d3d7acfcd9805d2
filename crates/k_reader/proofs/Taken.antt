-- The lines of a script are taken in, one after the other.
use Rattle.std.proofs.Common.{◌≡◌, ℕ, ◌+◌, ◌<◌, ◌≤◌, Bool, true, false, ltb, eqb, ◌&&◌, List, [], ◌∷◌, ◌++◌, map, length, replicate, refl, sym, ap, ◌∙◌, subst, arith, Option, Some, None, Result, Ok, Err, option_and_then, append_assoc}
use Rattle.std.specs.Prelude.{slice_set, slice_index}
use Rattle.std.specs.List.{list_all, flat_map, AllByRecursion, IsDistinct}
use Rattle.std.specs.Str.{bytes_eq}
use Rattle.std.proofs.lemmas.Bool.{lt-ltb, lt-leb, eqb-false}
use Rattle.std.proofs.lemmas.List.{append-nil, length-append, map-append, get_or-set_other, get_or_at}
use Rattle.std.proofs.lemmas.Map.Keys.{IsDistinct-head, IsDistinct-tail}
use Rattle.k_lists.proofs.Positions.{absent_found}
use Rattle.k_lists.proofs.Distinct.{distinct_before, distinct_left}
use Rattle.k_lists.proofs.All.{all_of_map}
use Rattle.k_script.specs.declared.lines.ThreadLine.{ThreadLine}
use Rattle.k_script.specs.declared.lines.AtLine.{AtLine}
use Rattle.k_script.specs.declared.lines.Item.{Item}
use Rattle.k_script.specs.declared.operation.Operation.{Operation}
use Rattle.k_script.specs.Script.{Program, program_in, nothing}
use Rattle.k_script.specs.Limits.{depth_after, depth_behind, IsOperation, IsProgram}
use Rattle.k_lines.specs.declared.line.Line.{Line}
use Rattle.k_lines.specs.declared.line.Line.TheVariants as line
use Rattle.k_lines.specs.Numbers.{exactly}
use Rattle.k_lines.proofs.Digits.{in_range-spelled}
use Rattle.k_reader.specs.declared.fault.Why.{Why}
use Rattle.k_reader.specs.Draft.{Draft, opened, is_zero, program_at}
use Rattle.k_reader.specs.Reading.{on_ok, accept_operation, accept_table, accept_carriers, accept_show, accept_aged, accept_program, accept_end, accept}
use Rattle.k_reader.specs.Grammar.{Age, IsAge, aged_by, numbers_of, aged_line, operation_line, operation_lines, program_lines}
use Rattle.k_reader.proofs.Nesting.{pushed}
use Rattle.k_reader.proofs.Unresolved.{operation-given, nests-well}

-- ALL LINES OF A LIST, taken in one after the other

abbrev pub taken : Draft → List Line → Result Draft Why
taken d [] = Ok d
taken d (l ∷ ls) = on_ok (accept d l) (λ e. taken e ls)

taken-append : (d : Draft) (ls ms : List Line) → taken d (ls ++ ms) ≡ on_ok (taken d ls) (λ e. taken e ms)
taken-append d [] ms = refl
taken-append d (l ∷ ls) ms = go (accept d l) (λ e. taken-append e ls ms)
  where
    go : (r : Result Draft Why) → ((e : Draft) → taken e (ls ++ ms) ≡ on_ok (taken e ls) (λ f. taken f ms)) → on_ok r (λ e. taken e (ls ++ ms)) ≡ on_ok (on_ok r (λ e. taken e ls)) (λ f. taken f ms)
    go (Err reason) h = refl
    go (Ok e) h = h e

-- first these, and then those
pub taken-both : (d e f : Draft) (ls ms : List Line) → taken d ls ≡ Ok e → taken e ms ≡ Ok f → taken d (ls ++ ms) ≡ Ok f
taken-both d e f ls ms h i = taken-append d ls ms ∙ ap (λ (r : Result Draft Why). on_ok r (λ e. taken e ms)) h ∙ i

pub taken-one : (d e f : Draft) (l : Line) (ls : List Line) → accept d l ≡ Ok e → taken e ls ≡ Ok f → taken d (l ∷ ls) ≡ Ok f
taken-one d e f l ls h i = ap (λ (r : Result Draft Why). on_ok r (λ e. taken e ls)) h ∙ i

-- a draft behind its table line
abbrev pub draft : ℕ → ℕ → Option ℕ → Bool → List ℕ → List Program → Option Program → List ThreadLine → List AtLine → List Item → Draft
draft v t c s aged ps o ts events turns = record { version = v; table = Some t; carriers = c; show_steps = s; aged = aged; programs = ps; open_program = o; threads = ts; at_lines = events; turns = turns }

pub accept-table : (v t : ℕ) → 1 ≤ t → t ≤ 64 → accept (opened v) (line.Table (exactly t)) ≡ Ok (draft v t None false (replicate 64 0) [] None [] [] [])
unfolding accept accept_table
accept-table v t low high = rw (in_range-spelled 1 64 t low high) refl

pub accept-carriers : (v t c : ℕ) (aged : List ℕ) → list_all is_zero aged ≡ true → 1 ≤ c → c ≤ 8 → accept (draft v t None false aged [] None [] [] []) (line.Carriers (exactly c)) ≡ Ok (draft v t (Some c) false aged [] None [] [] [])
unfolding accept accept_carriers
accept-carriers v t c aged z low high = rw z (rw (in_range-spelled 1 8 c low high) refl)

pub accept-show : (v t : ℕ) (c : Option ℕ) (aged : List ℕ) → list_all is_zero aged ≡ true → accept (draft v t c false aged [] None [] [] []) line.ShowSteps ≡ Ok (draft v t c true aged [] None [] [] [])
unfolding accept accept_show
accept-show v t c aged z = rw z refl

-- AGED LINES

accept-aged : (v t : ℕ) (c : Option ℕ) (s : Bool) (aged : List ℕ) (a : Age) → slice_index aged a.number ≡ 0 → IsAge t a → accept (draft v t c s aged [] None [] [] []) (aged_line a) ≡ Ok (draft v t c s (slice_set aged a.number a.version) [] None [] [] [])
unfolding accept accept_aged
accept-aged v t c s aged a z h = rw z (rw (no_again (ltb a.number 64)) (rw (in_range-spelled 1 1048575 a.version h.version.0 h.version.1) (rw (lt-ltb a.number t h.number) refl)))
  where
    no_again : (b : Bool) → (b && false) ≡ false
    no_again true = refl
    no_again false = refl

pub taken-aged : (v t : ℕ) (c : Option ℕ) (s : Bool) (aged : List ℕ) (ages : List Age) → AllByRecursion (IsAge t) ages → IsDistinct (λ a b. eqb a b) (numbers_of ages) → AllByRecursion (λ n. slice_index aged n ≡ 0) (numbers_of ages) → taken (draft v t c s aged [] None [] [] []) (map aged_line ages) ≡ Ok (draft v t c s (aged_by ages aged) [] None [] [] [])
taken-aged v t c s aged [] h d z = refl
taken-aged v t c s aged (a ∷ ages) h d z =
    taken-one (draft v t c s aged [] None [] [] []) (draft v t c s (slice_set aged a.number a.version) [] None [] [] []) (draft v t c s (aged_by ages (slice_set aged a.number a.version)) [] None [] [] []) (aged_line a) (map aged_line ages)
    (accept-aged v t c s aged a z.0 h.0)
    (taken-aged v t c s (slice_set aged a.number a.version) ages h.1 (IsDistinct-tail (λ a b. eqb a b) a.number (numbers_of ages) d) (still (numbers_of ages) (IsDistinct-head (λ a b. eqb a b) a.number (numbers_of ages) d) z.1))
  where
    still : (ns : List ℕ) → AllByRecursion (λ n. eqb a.number n ≡ false) ns → AllByRecursion (λ n. slice_index aged n ≡ 0) ns → AllByRecursion (λ n. slice_index (slice_set aged a.number a.version) n ≡ 0) ns
    still [] e f = tt
    still (n ∷ ns) e f = (get_or-set_other aged a.number n a.version 0 (λ q. eqb-false a.number n e.0 (sym q)) ∙ f.0, still ns e.1 f.1)

-- THE OPERATIONS OF A PROGRAM

-- a program whose name and operations so far are these
abbrev begun : List ℕ → List Operation → Option Program
begun name ops = Some (record { name = name; operations = ops })

-- The head of a draft stays the same in what follows: version, table, carriers, show, versions.
accept-operation : (v t : ℕ) (c : Option ℕ) (s : Bool) (aged : List ℕ) (ps qs : List Program) (name : List ℕ) (ops : List Operation) (r : Operation) (d e : ℕ) → IsDistinct bytes_eq (map (λ p. p.name) ps) → length ops < 4096 → depth_behind 0 ops ≡ Some d → depth_after d r ≡ Some e → IsOperation t (length ps) r → accept (draft v t c s aged ps (begun name ops) [] [] []) (line.Operation (operation_line (ps ++ qs) r)) ≡ Ok (draft v t c s aged ps (begun name (ops ++ r ∷ [])) [] [] [])
unfolding accept accept_operation
accept-operation v t c s aged ps qs name ops r d e names short nested next fits =
    rw nested (rw (nests-well (ps ++ qs) d e r next) (rw (operation-given t ps qs r names fits) (rw (lt-leb 4096 (length ops) short) refl)))

next_depth : (d : ℕ) (r : Operation) (rest : List Operation) (f : ℕ) → option_and_then (λ e. depth_behind e rest) (depth_after d r) ≡ Some f → (e : ℕ) × (depth_after d r ≡ Some e) × (depth_behind e rest ≡ Some f)
next_depth d r rest f h = go (depth_after d r) refl h
  where
    go : (o : Option ℕ) → depth_after d r ≡ o → option_and_then (λ e. depth_behind e rest) o ≡ Some f → (e : ℕ) × (depth_after d r ≡ Some e) × (depth_behind e rest ≡ Some f)
    go None a b = absurd cc
    go (Some e) a b = (e, a, b)

taken-operations : (v t : ℕ) (c : Option ℕ) (s : Bool) (aged : List ℕ) (ps qs : List Program) (name : List ℕ) (done rest : List Operation) (d : ℕ) → IsDistinct bytes_eq (map (λ p. p.name) ps) → length (done ++ rest) ≤ 4096 → depth_behind 0 done ≡ Some d → depth_behind d rest ≡ Some 0 → AllByRecursion (IsOperation t (length ps)) rest → taken (draft v t c s aged ps (begun name done) [] [] []) (operation_lines (ps ++ qs) rest) ≡ Ok (draft v t c s aged ps (begun name (done ++ rest)) [] [] [])
taken-operations v t c s aged ps qs name done [] d names short nested left h = ap (λ (ops : List Operation). Ok (draft v t c s aged ps (begun name ops) [] [] [])) (sym (append-nil done))
taken-operations v t c s aged ps qs name done (r ∷ rest) d names short nested left h =
    let long : length (done ++ r ∷ rest) ≡ length done + length (r ∷ rest) = length-append done (r ∷ rest) in
    let same : (done ++ r ∷ []) ++ rest ≡ done ++ r ∷ rest = append_assoc done (r ∷ []) rest in
    let n = next_depth d r rest 0 left in
    let more = taken-operations v t c s aged ps qs name (done ++ r ∷ []) rest n.0 names (subst (λ (ops : List Operation). length ops ≤ 4096) (sym same) short) (pushed d n.0 done r nested n.1) n.2 h.1 in
    taken-one (draft v t c s aged ps (begun name done) [] [] []) (draft v t c s aged ps (begun name (done ++ r ∷ [])) [] [] []) (draft v t c s aged ps (begun name (done ++ r ∷ rest)) [] [] []) (line.Operation (operation_line (ps ++ qs) r)) (operation_lines (ps ++ qs) rest)
    (accept-operation v t c s aged ps qs name done r d n.0 names (omega (arith, short, long)) nested n.1 h.0)
    (more ∙ ap (λ (ops : List Operation). Ok (draft v t c s aged ps (begun name ops) [] [] [])) same)

-- THE PROGRAMS

accept-program : (v t : ℕ) (c : Option ℕ) (s : Bool) (aged : List ℕ) (ps : List Program) (name : List ℕ) → length ps < 255 → program_at name ps ≡ None → accept (draft v t c s aged ps None [] [] []) (line.Program name) ≡ Ok (draft v t c s aged ps (begun name []) [] [] [])
unfolding accept accept_program
accept-program v t c s aged ps name few free = rw free (rw (lt-leb 255 (length ps) few) refl)

accept-end : (v t : ℕ) (c : Option ℕ) (s : Bool) (aged : List ℕ) (ps : List Program) (name : List ℕ) (ops : List Operation) → depth_behind 0 ops ≡ Some 0 → accept (draft v t c s aged ps (begun name ops) [] [] []) line.End ≡ Ok (draft v t c s aged (ps ++ record { name = name; operations = ops } ∷ []) None [] [] [])
unfolding accept accept_end
accept-end v t c s aged ps name ops nested = rw nested refl

taken-program : (v t : ℕ) (c : Option ℕ) (s : Bool) (aged : List ℕ) (ps qs : List Program) (p : Program) → IsDistinct bytes_eq (map (λ p. p.name) ps) → length ps < 255 → program_at p.name ps ≡ None → IsProgram t (length ps) p → taken (draft v t c s aged ps None [] [] []) (program_lines (ps ++ qs) p) ≡ Ok (draft v t c s aged (ps ++ p ∷ []) None [] [] [])
taken-program v t c s aged ps qs p names few free h =
    let body = taken-operations v t c s aged ps qs p.name [] p.operations 0 names h.short refl h.nested h.operations in
    taken-one (draft v t c s aged ps None [] [] []) (draft v t c s aged ps (begun p.name []) [] [] []) (draft v t c s aged (ps ++ p ∷ []) None [] [] []) (line.Program p.name) (operation_lines (ps ++ qs) p.operations ++ line.End ∷ [])
    (accept-program v t c s aged ps p.name few free)
    (taken-both (draft v t c s aged ps (begun p.name []) [] [] []) (draft v t c s aged ps (begun p.name p.operations) [] [] []) (draft v t c s aged (ps ++ p ∷ []) None [] [] []) (operation_lines (ps ++ qs) p.operations) (line.End ∷ []) body
    (taken-one (draft v t c s aged ps (begun p.name p.operations) [] [] []) (draft v t c s aged (ps ++ p ∷ []) None [] [] []) (draft v t c s aged (ps ++ p ∷ []) None [] [] []) line.End [] (accept-end v t c s aged ps p.name p.operations h.nested) refl))

pub taken-programs : (v t : ℕ) (c : Option ℕ) (s : Bool) (aged : List ℕ) (done rest : List Program) → length (done ++ rest) ≤ 255 → IsDistinct bytes_eq (map (λ p. p.name) (done ++ rest)) → ((k : ℕ) → k < length (done ++ rest) → IsProgram t k (program_in (done ++ rest) k)) → taken (draft v t c s aged done None [] [] []) (flat_map (program_lines (done ++ rest)) rest) ≡ Ok (draft v t c s aged (done ++ rest) None [] [] [])
taken-programs v t c s aged done [] few names h = ap (λ (ps : List Program). Ok (draft v t c s aged ps None [] [] [])) (sym (append-nil done))
taken-programs v t c s aged done (p ∷ rest) few names h =
    let long : length (done ++ p ∷ rest) ≡ length done + length (p ∷ rest) = length-append done (p ∷ rest) in
    let same : (done ++ p ∷ []) ++ rest ≡ done ++ p ∷ rest = append_assoc done (p ∷ []) rest in
    let split : IsDistinct bytes_eq (map (λ p. p.name) done ++ p.name ∷ map (λ p. p.name) rest) = subst (IsDistinct bytes_eq) (map-append (λ p. p.name) done (p ∷ rest)) names in
    let free = absent_found (λ q. bytes_eq q.name p.name) done (all_of_map (λ n. bytes_eq n p.name ≡ false) (λ q. q.name) done (distinct_before bytes_eq (map (λ q. q.name) done) p.name (map (λ q. q.name) rest) split)) in
    let here : program_in (done ++ p ∷ rest) (length done) ≡ p = get_or_at done p rest nothing (length done) refl in
    let fits = subst (IsProgram t (length done)) here (h (length done) (omega (arith, long))) in
    let before = distinct_left bytes_eq (map (λ p. p.name) done) (p.name ∷ map (λ p. p.name) rest) split in
    let more = taken-programs v t c s aged (done ++ p ∷ []) rest (subst (λ (ps : List Program). length ps ≤ 255) (sym same) few) (subst (λ (ps : List Program). IsDistinct bytes_eq (map (λ p. p.name) ps)) (sym same) names) (subst (λ (ps : List Program). (k : ℕ) → k < length ps → IsProgram t k (program_in ps k)) (sym same) h) in
    taken-both (draft v t c s aged done None [] [] []) (draft v t c s aged (done ++ p ∷ []) None [] [] []) (draft v t c s aged (done ++ p ∷ rest) None [] [] []) (program_lines (done ++ p ∷ rest) p) (flat_map (program_lines (done ++ p ∷ rest)) rest)
    (taken-program v t c s aged done (p ∷ rest) p before (omega (arith, few, long)) free fits)
    (ap (λ (ps : List Program). taken (draft v t c s aged (done ++ p ∷ []) None [] [] []) (flat_map (program_lines ps) rest)) (sym same) ∙ more ∙ ap (λ (ps : List Program). Ok (draft v t c s aged ps None [] [] [])) same)
