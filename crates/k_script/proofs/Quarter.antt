-- A script makes a quarter as many calls as it weighs, at most.
use Rattle.std.proofs.Common.{◌≡◌, ℕ, ◌+◌, ◌*◌, ◌≤◌, List, [], ◌∷◌, ◌++◌, length, get_or, slice_index, refl, sym, ap, ◌∙◌, arith, inl, inr, length-append}
use Rattle.std.specs.List.{sum_by}
use Rattle.std.proofs.Math.Nat.{mul-le-mul_left}
use Rattle.std.proofs.Math.Seq.{get_or-append_seam}
use Rattle.std.proofs.lemmas.Bool.{cases_lt}
use Rattle.std.proofs.lemmas.List.{get_or_past, get_or_append_left}
use Rattle.std.proofs.lemmas.List.Sums.{sum_by-cons}
use Rattle.k_script.specs.declared.operation.Operation.{Operation}
use Rattle.k_script.specs.declared.operation.Operation.TheVariants as operation
use Rattle.k_script.specs.declared.lines.ThreadLine.{ThreadLine}
use Rattle.k_script.specs.Script.{Script, Program}
use Rattle.k_script.specs.Weight.{weight_scale, phase_scale, cost, added, multiplied, totals, totals_before, first_total, program_total, program_totals, phases_of, weight_of}

-- four times each number is at most the other's
abbrev Quarter : List ℕ → List ℕ → Type 0
Quarter [] [] = Unit {0}
Quarter [] (u ∷ us) = ⊥
Quarter (t ∷ ts) [] = ⊥
Quarter (t ∷ ts) (u ∷ us) = (4 * t ≤ u) × Quarter ts us

abbrev Quarters : List ℕ → List ℕ → Type 0
Quarters ts us = (k : ℕ) → 4 * slice_index ts k ≤ slice_index us k

cost_quarter : (table : ℕ) (ts us : List ℕ) (op : Operation) → Quarters ts us → 4 * cost phase_scale ts op ≤ cost (weight_scale table) us op
cost_quarter table ts us (operation.Send to low high zero) h = omega arith
cost_quarter table ts us (operation.Receive from zero) h = omega arith
cost_quarter table ts us (operation.Call to low high zero) h = omega arith
cost_quarter table ts us (operation.Reply low high zero) h = omega arith
cost_quarter table ts us (operation.Create program priority) h = omega (arith, h program)
cost_quarter table ts us (operation.Destroy victim) h = omega arith
cost_quarter table ts us (operation.Work count) h = omega arith
cost_quarter table ts us (operation.Repeat count) h = omega arith
cost_quarter table ts us operation.Again h = omega arith

added_quarter : (m n : ℕ) (ts us : List ℕ) → 4 * m ≤ n → Quarter ts us → Quarter (added m ts) (added n us)
added_quarter m n [] [] h q = tt
added_quarter m n [] (u ∷ us) h q = absurd q
added_quarter m n (t ∷ ts) [] h q = absurd q
added_quarter m n (t ∷ ts) (u ∷ us) h q = (omega (arith, q.0), q.1)

turns_quarter : (count t u : ℕ) → 4 * t ≤ u → 4 * (count * (t + 0)) ≤ count * (u + 1)
turns_quarter count t u h = omega (arith, mul-le-mul_left count h)

multiplied_quarter : (count : ℕ) (ts us : List ℕ) → Quarter ts us → Quarter (multiplied 0 count ts) (multiplied 1 count us)
multiplied_quarter count [] [] q = tt
multiplied_quarter count [] (u ∷ us) q = absurd q
multiplied_quarter count (t ∷ ts) [] q = absurd q
multiplied_quarter count (t ∷ []) (u ∷ []) q = (turns_quarter count t u q.0, tt)
multiplied_quarter count (t ∷ []) (u ∷ v ∷ us) q = absurd q.1
multiplied_quarter count (t ∷ s ∷ ts) (u ∷ []) q = absurd q.1
multiplied_quarter count (t ∷ s ∷ ts) (u ∷ v ∷ us) q = (omega (arith, turns_quarter count t u q.0, q.1.0), q.1.1)

before_quarter : (table : ℕ) (xs ys : List ℕ) (op : Operation) (ts us : List ℕ) → Quarters xs ys → Quarter ts us → Quarter (totals_before phase_scale xs op ts) (totals_before (weight_scale table) ys op us)
before_quarter table xs ys (operation.Repeat count) ts us h q = multiplied_quarter count ts us q
before_quarter table xs ys operation.Again ts us h q = (omega arith, q)
before_quarter table xs ys (operation.Send to low high zero) ts us h q = added_quarter _ _ ts us (cost_quarter table xs ys (operation.Send to low high zero) h) q
before_quarter table xs ys (operation.Receive from zero) ts us h q = added_quarter _ _ ts us (cost_quarter table xs ys (operation.Receive from zero) h) q
before_quarter table xs ys (operation.Call to low high zero) ts us h q = added_quarter _ _ ts us (cost_quarter table xs ys (operation.Call to low high zero) h) q
before_quarter table xs ys (operation.Reply low high zero) ts us h q = added_quarter _ _ ts us (cost_quarter table xs ys (operation.Reply low high zero) h) q
before_quarter table xs ys (operation.Create program priority) ts us h q = added_quarter _ _ ts us (cost_quarter table xs ys (operation.Create program priority) h) q
before_quarter table xs ys (operation.Destroy victim) ts us h q = added_quarter _ _ ts us (cost_quarter table xs ys (operation.Destroy victim) h) q
before_quarter table xs ys (operation.Work count) ts us h q = added_quarter _ _ ts us (cost_quarter table xs ys (operation.Work count) h) q

totals_quarter : (table : ℕ) (xs ys : List ℕ) (ops : List Operation) → Quarters xs ys → Quarter (totals phase_scale xs ops) (totals (weight_scale table) ys ops)
totals_quarter table xs ys [] h = (omega arith, tt)
totals_quarter table xs ys (op ∷ ops) h = before_quarter table xs ys op (totals phase_scale xs ops) (totals (weight_scale table) ys ops) h (totals_quarter table xs ys ops h)

first_quarter : (ts us : List ℕ) → Quarter ts us → 4 * (first_total ts + 1) ≤ first_total us + 4
first_quarter [] [] q = omega arith
first_quarter [] (u ∷ us) q = absurd q
first_quarter (t ∷ ts) [] q = absurd q
first_quarter (t ∷ ts) (u ∷ us) q = omega (arith, q.0)

push_quarter : (xs ys : List ℕ) (x y : ℕ) → length xs ≡ length ys → Quarters xs ys → 4 * x ≤ y → Quarters (xs ++ x ∷ []) (ys ++ y ∷ [])
push_quarter xs ys x y same h l k = elim (cases_lt k (length xs)) [
  | inl less ↦ rw (get_or_append_left xs (x ∷ []) 0 k less, get_or_append_left ys (y ∷ []) 0 k (omega arith)) (h k)
  | inr more ↦ elim (cases_lt (length xs) k) [
    | inl above ↦ rw (get_or_past (xs ++ x ∷ []) k 0 (omega (arith, length-append xs (x ∷ []))), get_or_past (ys ++ y ∷ []) k 0 (omega (arith, length-append ys (y ∷ [])))) (omega arith)
    | inr below ↦
        let here : length xs ≡ k = omega arith in
        let there : length ys ≡ k = omega arith in
        let left : get_or (xs ++ x ∷ []) k 0 ≡ x = ap (λ (j : ℕ). get_or (xs ++ x ∷ []) j 0) (sym here) ∙ get_or-append_seam xs x [] 0 in
        let right : get_or (ys ++ y ∷ []) k 0 ≡ y = ap (λ (j : ℕ). get_or (ys ++ y ∷ []) j 0) (sym there) ∙ get_or-append_seam ys y [] 0 in
        rw (left, right) l
  ]
]

programs_quarter : (table : ℕ) (xs ys : List ℕ) (ps : List Program) → length xs ≡ length ys → Quarters xs ys → Quarters (program_totals phase_scale xs ps) (program_totals (weight_scale table) ys ps)
programs_quarter table xs ys [] same h = h
programs_quarter table xs ys (p ∷ ps) same h =
    let x = program_total phase_scale xs p.operations in
    let y = program_total (weight_scale table) ys p.operations in
    programs_quarter table (xs ++ x ∷ []) (ys ++ y ∷ []) ps (omega (arith, length-append xs (x ∷ []), length-append ys (y ∷ [])))
    (push_quarter xs ys x y same h (first_quarter (totals phase_scale xs p.operations) (totals (weight_scale table) ys p.operations) (totals_quarter table xs ys p.operations h)))

sum_quarter : (f g : ThreadLine → ℕ) (ts : List ThreadLine) → ((t : ThreadLine) → 4 * f t ≤ g t) → 4 * sum_by f ts ≤ sum_by g ts
sum_quarter f g [] h = omega arith
sum_quarter f g (t ∷ ts) h = omega (arith, sum_by-cons f t ts, sum_by-cons g t ts, h t, sum_quarter f g ts h)

pub phases_few : (script : Script) → 4 * phases_of script ≤ weight_of script
phases_few script =
    let all = programs_quarter script.table [] [] script.programs refl (λ k. omega arith) in
    sum_quarter (λ t. slice_index (program_totals phase_scale [] script.programs) t.program) (λ t. slice_index (program_totals (weight_scale script.table) [] script.programs) t.program) script.threads (λ t. all t.program)
