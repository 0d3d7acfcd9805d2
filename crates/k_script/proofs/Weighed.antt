-- What a program counts: operation by operation, and repeat by repeat.
use Rattle.std.proofs.Common.{◌≡◌, ℕ, ◌+◌, ◌*◌, ◌≤◌, false, List, [], ◌∷◌, ◌++◌, length, refl, ap, ◌∙◌, arith, Some}
use Rattle.k_script.specs.declared.operation.Operation.{Operation}
use Rattle.k_script.specs.declared.operation.Operation.TheVariants as operation
use Rattle.k_script.specs.declared.scale.Scale.{Scale}
use Rattle.k_script.specs.Limits.{depth_after, depth_behind}
use Rattle.k_script.specs.Flat.{is_marker}
use Rattle.k_script.specs.Weight.{cost, added, multiplied, totals, totals_before, first_total}
use Rattle.k_script.proofs.Levels.{open_behind, open_repeat}
use Rattle.k_script.proofs.Capped.{plain_totals, length_added, length_totals}

-- THERE IS a level at least.

some_before : (s : Scale) (before : List ℕ) (op : Operation) (ts : List ℕ) → 1 ≤ length ts → 1 ≤ length (totals_before s before op ts)
some_before s before (operation.Repeat count) [] h = absurd (omega arith)
some_before s before (operation.Repeat count) (t ∷ []) h = omega arith
some_before s before (operation.Repeat count) (t ∷ u ∷ ts) h = omega arith
some_before s before operation.Again ts h = omega arith
some_before s before (operation.Send to low high zero) ts h = omega (arith, length_added (cost s before (operation.Send to low high zero)) ts)
some_before s before (operation.Receive from zero) ts h = omega (arith, length_added (cost s before (operation.Receive from zero)) ts)
some_before s before (operation.Call to low high zero) ts h = omega (arith, length_added (cost s before (operation.Call to low high zero)) ts)
some_before s before (operation.Reply low high zero) ts h = omega (arith, length_added (cost s before (operation.Reply low high zero)) ts)
some_before s before (operation.Create program priority) ts h = omega (arith, length_added (cost s before (operation.Create program priority)) ts)
some_before s before (operation.Destroy victim) ts h = omega (arith, length_added (cost s before (operation.Destroy victim)) ts)
some_before s before (operation.Work count) ts h = omega (arith, length_added (cost s before (operation.Work count)) ts)

some_total : (s : Scale) (before : List ℕ) (ops : List Operation) → 1 ≤ length (totals s before ops)
some_total s before [] = omega arith
some_total s before (op ∷ ops) = some_before s before op (totals s before ops) (some_total s before ops)

-- AN OPERATION

first_added : (n : ℕ) (ts : List ℕ) → 1 ≤ length ts → first_total (added n ts) ≡ n + first_total ts
first_added n [] h = absurd (omega arith)
first_added n (t ∷ ts) h = refl

pub operation_counts : (s : Scale) (before : List ℕ) (op : Operation) (ops : List Operation) → is_marker op ≡ false → first_total (totals s before (op ∷ ops)) ≡ cost s before op + first_total (totals s before ops)
operation_counts s before op ops h = ap first_total (plain_totals s before op (totals s before ops) h) ∙ first_added (cost s before op) (totals s before ops) (some_total s before ops)

-- A REPEAT

abbrev glue : List ℕ → List ℕ → List ℕ
glue [] us = us
glue (t ∷ []) [] = t ∷ []
glue (t ∷ []) (u ∷ us) = (t + u) ∷ us
glue (t ∷ v ∷ ts) us = t ∷ glue (v ∷ ts) us

glue_nil : (us : List ℕ) → 1 ≤ length us → us ≡ glue (0 ∷ []) us
glue_nil [] h = absurd (omega arith)
glue_nil (u ∷ us) h = let e : u ≡ 0 + u = omega arith in ap (λ (k : ℕ). k ∷ us) e

glue_added : (n : ℕ) (ts us : List ℕ) → 1 ≤ length ts → 1 ≤ length us → added n (glue ts us) ≡ glue (added n ts) us
glue_added n [] us h g = absurd (omega arith)
glue_added n (t ∷ []) [] h g = absurd (omega arith)
glue_added n (t ∷ []) (u ∷ us) h g = let e : n + (t + u) ≡ (n + t) + u = omega arith in ap (λ (k : ℕ). k ∷ us) e
glue_added n (t ∷ v ∷ ts) us h g = refl

glue_again : (ts us : List ℕ) → 1 ≤ length ts → 0 ∷ glue ts us ≡ glue (0 ∷ ts) us
glue_again [] us h = absurd (omega arith)
glue_again (t ∷ ts) us h = refl

glue_repeat : (turn count : ℕ) (ts us : List ℕ) → 2 ≤ length ts → 1 ≤ length us → multiplied turn count (glue ts us) ≡ glue (multiplied turn count ts) us
glue_repeat turn count [] us h g = absurd (omega arith)
glue_repeat turn count (t ∷ []) us h g = absurd (omega arith)
glue_repeat turn count (t ∷ v ∷ []) [] h g = absurd (omega arith)
glue_repeat turn count (t ∷ v ∷ []) (u ∷ us) h g = let e : count * (t + turn) + (v + u) ≡ (count * (t + turn) + v) + u = omega arith in ap (λ (k : ℕ). k ∷ us) e
glue_repeat turn count (t ∷ v ∷ w ∷ ts) us h g = refl

glue_before : (s : Scale) (before : List ℕ) (op : Operation) (depth d : ℕ) (ts us : List ℕ) → depth_after depth op ≡ Some d → length ts ≡ d + 1 → 1 ≤ length us → totals_before s before op (glue ts us) ≡ glue (totals_before s before op ts) us
glue_before s before (operation.Repeat count) depth d ts us h e g = let o = open_repeat depth d count h in glue_repeat s.turn count ts us (omega (arith, o.1)) g
glue_before s before operation.Again depth d ts us h e g = glue_again ts us (omega arith)
glue_before s before (operation.Send to low high zero) depth d ts us h e g = glue_added (cost s before (operation.Send to low high zero)) ts us (omega arith) g
glue_before s before (operation.Receive from zero) depth d ts us h e g = glue_added (cost s before (operation.Receive from zero)) ts us (omega arith) g
glue_before s before (operation.Call to low high zero) depth d ts us h e g = glue_added (cost s before (operation.Call to low high zero)) ts us (omega arith) g
glue_before s before (operation.Reply low high zero) depth d ts us h e g = glue_added (cost s before (operation.Reply low high zero)) ts us (omega arith) g
glue_before s before (operation.Create program priority) depth d ts us h e g = glue_added (cost s before (operation.Create program priority)) ts us (omega arith) g
glue_before s before (operation.Destroy victim) depth d ts us h e g = glue_added (cost s before (operation.Destroy victim)) ts us (omega arith) g
glue_before s before (operation.Work count) depth d ts us h e g = glue_added (cost s before (operation.Work count)) ts us (omega arith) g

totals_glue : (s : Scale) (before : List ℕ) (depth : ℕ) (body rest : List Operation) → depth_behind depth body ≡ Some 0 → totals s before (body ++ rest) ≡ glue (totals s before body) (totals s before rest)
totals_glue s before depth [] rest h = glue_nil (totals s before rest) (some_total s before rest)
totals_glue s before depth (op ∷ body) rest h =
    let o = open_behind depth op body h in
    ap (totals_before s before op) (totals_glue s before o.0 body rest o.2)
    ∙ glue_before s before op depth o.0 (totals s before body) (totals s before rest) o.1 (length_totals s before o.0 body o.2) (some_total s before rest)

first_multiplied : (turn count : ℕ) (ts us : List ℕ) → length ts ≡ 1 → 1 ≤ length us → first_total (multiplied turn count (glue ts (0 ∷ us))) ≡ count * (first_total ts + turn) + first_total us
first_multiplied turn count [] us h g = absurd (omega arith)
first_multiplied turn count (t ∷ []) [] h g = absurd (omega arith)
first_multiplied turn count (t ∷ []) (u ∷ us) h g = let e : t + 0 ≡ t = omega arith in ap (λ (k : ℕ). count * (k + turn) + u) e
first_multiplied turn count (t ∷ v ∷ ts) us h g = absurd (omega arith)

pub repeat_counts : (s : Scale) (before : List ℕ) (count : ℕ) (body rest : List Operation) → depth_behind 0 body ≡ Some 0 → first_total (totals s before (operation.Repeat count ∷ (body ++ (operation.Again ∷ rest)))) ≡ count * (first_total (totals s before body) + s.turn) + first_total (totals s before rest)
repeat_counts s before count body rest h =
    ap (λ (ts : List ℕ). first_total (multiplied s.turn count ts)) (totals_glue s before 0 body (operation.Again ∷ rest) h)
    ∙ first_multiplied s.turn count (totals s before body) (totals s before rest) (length_totals s before 0 body h) (some_total s before rest)
