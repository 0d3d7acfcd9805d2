-- What a program counts is the sum over its operations written out, where the turns count nothing.
use Rattle.std.proofs.Common.{◌≡◌, ℕ, suc, ◌+◌, ◌*◌, ◌<◌, List, [], ◌∷◌, ◌++◌, map, length, get_or, slice_index, refl, sym, ap, ◌∙◌, subst, arith, length-append, add-zero}
use Rattle.std.specs.List.{sum_by, repeat, AllByRecursion}
use Rattle.std.proofs.lemmas.List.Sums.{sum_by-cons, sum_by-append}
use Rattle.std.proofs.lemmas.List.{get_or_append_left}
use Rattle.std.proofs.Math.Seq.{get_or-append_seam}
use Rattle.k_ids.specs.declared.threads.ThreadId.{ThreadId}
use Rattle.k_script.specs.declared.operation.Operation.{Operation}
use Rattle.k_script.specs.declared.operation.Operation.TheVariants as operation
use Rattle.k_script.specs.declared.scale.Scale.{Scale}
use Rattle.k_script.specs.Script.{Script, Program, nothing, operations_of}
use Rattle.k_script.specs.Limits.{IsOperation, IsProgram, IsScript}
use Rattle.k_script.specs.Flat.{levels, levels_before, in_front, repeated, flat, first_level}
use Rattle.k_script.specs.Weight.{cost, added, multiplied, totals, totals_before, first_total, program_total, program_totals, phase_scale, program_phases, phases_of_program}
use Rattle.k_script.specs.Plays.{phases_left, start_of}

-- THE LEVELS' SUMS

sum_repeat : {X : Type 0} (f : X → ℕ) (n : ℕ) (xs : List X) → sum_by f (repeat n xs) ≡ n * sum_by f xs
sum_repeat f (suc n) xs = sum_by-append f xs (repeat n xs) ∙ ap (λ (k : ℕ). sum_by f xs + k) (sum_repeat f n xs) ∙ omega arith
sum_repeat f n xs = omega arith

sums_repeated : (s : Scale) (before : List ℕ) (count : ℕ) (ls : List (List Operation)) → s.turn ≡ 0 → multiplied s.turn count (map (sum_by (cost s before)) ls) ≡ map (sum_by (cost s before)) (repeated count ls)
sums_repeated s before count [] e = refl
sums_repeated s before count (l ∷ []) e =
    let f = sum_by (cost s before) in
    let same : count * (f l + s.turn) ≡ f (repeat count l) = ap (λ (k : ℕ). count * (f l + k)) e ∙ ap (λ (k : ℕ). count * k) (add-zero (f l)) ∙ sym (sum_repeat (cost s before) count l) in
    ap (λ (k : ℕ). k ∷ []) same
sums_repeated s before count (l ∷ m ∷ ls) e =
    let f = sum_by (cost s before) in
    let same : count * (f l + s.turn) ≡ f (repeat count l) = ap (λ (k : ℕ). count * (f l + k)) e ∙ ap (λ (k : ℕ). count * k) (add-zero (f l)) ∙ sym (sum_repeat (cost s before) count l) in
    ap (λ (k : ℕ). k ∷ map f ls) (ap (λ (k : ℕ). k + f m) same ∙ sym (sum_by-append (cost s before) (repeat count l) m))

sums_front : (s : Scale) (before : List ℕ) (op : Operation) (ls : List (List Operation)) → added (cost s before op) (map (sum_by (cost s before)) ls) ≡ map (sum_by (cost s before)) (in_front op ls)
sums_front s before op [] = refl
sums_front s before op (l ∷ ls) = ap (λ (k : ℕ). k ∷ map (sum_by (cost s before)) ls) (sym (sum_by-cons (cost s before) op l))

sums_before : (s : Scale) (before : List ℕ) (op : Operation) (ls : List (List Operation)) → s.turn ≡ 0 → totals_before s before op (map (sum_by (cost s before)) ls) ≡ map (sum_by (cost s before)) (levels_before op ls)
sums_before s before (operation.Repeat count) ls e = sums_repeated s before count ls e
sums_before s before operation.Again ls e = refl
sums_before s before (operation.Send to low high zero) ls e = sums_front s before (operation.Send to low high zero) ls
sums_before s before (operation.Receive from zero) ls e = sums_front s before (operation.Receive from zero) ls
sums_before s before (operation.Call to low high zero) ls e = sums_front s before (operation.Call to low high zero) ls
sums_before s before (operation.Reply low high zero) ls e = sums_front s before (operation.Reply low high zero) ls
sums_before s before (operation.Create program priority) ls e = sums_front s before (operation.Create program priority) ls
sums_before s before (operation.Destroy victim) ls e = sums_front s before (operation.Destroy victim) ls
sums_before s before (operation.Work count) ls e = sums_front s before (operation.Work count) ls

sums_of : (s : Scale) (before : List ℕ) (ops : List Operation) → s.turn ≡ 0 → totals s before ops ≡ map (sum_by (cost s before)) (levels ops)
sums_of s before [] e = refl
sums_of s before (op ∷ ops) e = ap (totals_before s before op) (sums_of s before ops e) ∙ sums_before s before op (levels ops) e

first_sum : (f : List Operation → ℕ) (ls : List (List Operation)) → f [] ≡ 0 → first_total (map f ls) ≡ f (first_level ls)
first_sum f [] e = sym e
first_sum f (l ∷ ls) e = refl

pub flat_total : (s : Scale) (before : List ℕ) (ops : List Operation) → s.turn ≡ 0 → first_total (totals s before ops) ≡ sum_by (cost s before) (flat ops)
flat_total s before ops e = ap first_total (sums_of s before ops e) ∙ first_sum (sum_by (cost s before)) (levels ops) refl

-- A PROGRAM READS the totals of earlier programs alone.

cost_same : (s : Scale) (table : ℕ) (before after : List ℕ) (op : Operation) → ((k : ℕ) → k < length before → slice_index before k ≡ slice_index after k) → IsOperation table (length before) op → cost s before op ≡ cost s after op
cost_same s table before after (operation.Create program priority) same h = ap (λ (k : ℕ). s.call + k) (same program h.0)
cost_same s table before after (operation.Send to low high zero) same h = refl
cost_same s table before after (operation.Receive from zero) same h = refl
cost_same s table before after (operation.Call to low high zero) same h = refl
cost_same s table before after (operation.Reply low high zero) same h = refl
cost_same s table before after (operation.Destroy victim) same h = refl
cost_same s table before after (operation.Work count) same h = refl
cost_same s table before after (operation.Repeat count) same h = refl
cost_same s table before after operation.Again same h = refl

before_same : (s : Scale) (before after : List ℕ) (op : Operation) (ts : List ℕ) → cost s before op ≡ cost s after op → totals_before s before op ts ≡ totals_before s after op ts
before_same s before after (operation.Create program priority) ts e = ap (λ (k : ℕ). added k ts) e
before_same s before after (operation.Send to low high zero) ts e = refl
before_same s before after (operation.Receive from zero) ts e = refl
before_same s before after (operation.Call to low high zero) ts e = refl
before_same s before after (operation.Reply low high zero) ts e = refl
before_same s before after (operation.Destroy victim) ts e = refl
before_same s before after (operation.Work count) ts e = refl
before_same s before after (operation.Repeat count) ts e = refl
before_same s before after operation.Again ts e = refl

totals_same : (s : Scale) (table : ℕ) (before after : List ℕ) (ops : List Operation) → ((k : ℕ) → k < length before → slice_index before k ≡ slice_index after k) → AllByRecursion (IsOperation table (length before)) ops → totals s before ops ≡ totals s after ops
totals_same s table before after [] same h = refl
totals_same s table before after (op ∷ ops) same h =
    before_same s before after op (totals s before ops) (cost_same s table before after op same h.0)
    ∙ ap (totals_before s after op) (totals_same s table before after ops same h.1)

prefix_same : (s : Scale) (before : List ℕ) (ps : List Program) (k : ℕ) → k < length before → slice_index before k ≡ slice_index (program_totals s before ps) k
prefix_same s before [] k l = refl
prefix_same s before (p ∷ ps) k l =
    sym (get_or_append_left before (program_total s before p.operations ∷ []) 0 k l)
    ∙ prefix_same s (before ++ program_total s before p.operations ∷ []) ps k (omega (arith, length-append before (program_total s before p.operations ∷ [])))

entry_of : (s : Scale) (table n : ℕ) (before : List ℕ) (ps : List Program) (k : ℕ) → length before ≡ n → k < length ps → ((j : ℕ) → j < length ps → IsProgram table (n + j) (get_or ps j nothing)) → slice_index (program_totals s before ps) (n + k) ≡ program_total s (program_totals s before ps) (get_or ps k nothing).operations
entry_of s table n before [] k size inside all = absurd (omega arith)
entry_of s table n before (p ∷ ps) (suc k) size inside all =
    let push : List ℕ = before ++ program_total s before p.operations ∷ [] in
    let next : n + suc k ≡ (n + 1) + k = omega arith in
    let longer : length push ≡ n + 1 = omega (arith, length-append before (program_total s before p.operations ∷ [])) in
    ap (slice_index (program_totals s push ps)) next
    ∙ entry_of s table (n + 1) push ps k longer (omega arith)
    (λ j l. let shift : n + suc j ≡ (n + 1) + j = omega arith in subst (λ (i : ℕ). IsProgram table i (get_or ps j nothing)) shift (all (suc j) (omega arith)))
entry_of s table n before (p ∷ ps) k size inside all =
    let here : n + 0 ≡ length before = omega arith in
    let push : List ℕ = before ++ program_total s before p.operations ∷ [] in
    let wide : length before < length push = omega (arith, length-append before (program_total s before p.operations ∷ [])) in
    let given : IsProgram table (length before) p = subst (λ (i : ℕ). IsProgram table i p) here (all 0 inside) in
    let ops : totals s before p.operations ≡ totals s (program_totals s push ps) p.operations =
    totals_same s table before (program_totals s push ps) p.operations (prefix_same s before (p ∷ ps)) given.operations in
    ap (slice_index (program_totals s push ps)) here
    ∙ sym (prefix_same s push ps (length before) wide)
    ∙ get_or-append_seam before (program_total s before p.operations) [] 0
    ∙ ap (λ (ts : List ℕ). first_total ts + s.ending) ops

-- So a thread's first phases are those that its program counts.
pub start_counts : (script : Script) (program : ℕ) (id : ThreadId) → IsScript script → program < length script.programs → phases_left script (start_of script program id) ≡ phases_of_program script program
start_counts script program id h inside =
    let zeroed : 0 + program ≡ program = omega arith in
    let entry = entry_of phase_scale script.table 0 [] script.programs program refl inside (λ j l. let shift : j ≡ 0 + j = omega arith in subst (λ (i : ℕ). IsProgram script.table i (get_or script.programs j nothing)) shift (h.programs j l)) in
    let count : slice_index (program_phases script) program ≡ first_total (totals phase_scale (program_phases script) (operations_of script program)) + 1 = ap (slice_index (program_phases script)) (sym zeroed) ∙ entry in
    let sum : first_total (totals phase_scale (program_phases script) (operations_of script program)) ≡ sum_by (cost phase_scale (program_phases script)) (flat (operations_of script program)) = flat_total phase_scale (program_phases script) (operations_of script program) refl in
    omega (arith, count, sum)
