-- What comes next of a program: the place that is kept gives the operations that are left.
use Rattle.std.proofs.Common.{◌≡◌, ℕ, suc, ◌<◌, ◌≤◌, Bool, true, false, ◌&&◌, List, [], ◌∷◌, length, get_or, refl, sym, ◌∙◌, subst, arith, Option, Some, None, inl, inr}
use Rattle.std.proofs.lemmas.Bool.{cases_lt}
use Rattle.k_lists.proofs.All.{all_weaker}
use Rattle.k_ids.specs.declared.calls.Phase.{Phase}
use Rattle.k_ids.specs.declared.calls.Phase.TheVariants as phase
use Rattle.k_ids.specs.declared.calls.Reply.{Reply}
use Rattle.k_script.specs.declared.operation.Operation.{Operation}
use Rattle.k_script.specs.declared.operation.Operation.TheVariants as operation
use Rattle.k_script.specs.declared.registers.Registers.{Registers}
use Rattle.k_script.specs.declared.registers.Next.TheVariants as next
use Rattle.k_script.specs.Script.{Script, Program, nothing, operations_of}
use Rattle.k_script.specs.Limits.{IsOperation, IsProgram, IsScript}
use Rattle.k_script.specs.Place.{HasTurns, IsNested}
use Rattle.k_script.specs.Plays.{Position, phase_next, moved, next_of, went_on, phase_in, move_in, next_for, phase_of, first_move, first_phase, after_work, filled, is_sent, open_receive}

-- PROGRAMS WITHIN THE LIMITS

operation_turns : (table before : ℕ) (op : Operation) → IsOperation table before op → HasTurns op
operation_turns table before (operation.Repeat count) h = h.0
operation_turns table before operation.Again h = tt
operation_turns table before (operation.Send to low high zero) h = tt
operation_turns table before (operation.Receive from zero) h = tt
operation_turns table before (operation.Call to low high zero) h = tt
operation_turns table before (operation.Reply low high zero) h = tt
operation_turns table before (operation.Create program priority) h = tt
operation_turns table before (operation.Destroy victim) h = tt
operation_turns table before (operation.Work count) h = tt

pub program_nested : (table before : ℕ) (p : Program) → IsProgram table before p → IsNested p.operations
program_nested table before p h = record {
  nested = h.nested;
  short = h.short;
  counts = all_weaker (IsOperation table before) HasTurns (operation_turns table before) p.operations h.operations;
}

pub none_nested : IsNested []
none_nested = record { nested = refl; short = omega arith; counts = tt }

pub past_nothing : (ps : List Program) (k : ℕ) → length ps ≤ k → get_or ps k nothing ≡ nothing
past_nothing [] k h = refl
past_nothing (p ∷ ps) (suc k) h = past_nothing ps k (omega arith)
past_nothing (p ∷ ps) k h = absurd (omega arith)

pub script_nested : (s : Script) (program : ℕ) → IsScript s → IsNested (operations_of s program)
script_nested s program h = elim (cases_lt program (length s.programs)) [
  | inl l ↦ program_nested s.table program (get_or s.programs program nothing) (h.programs program l)
  | inr g ↦ subst (λ (p : Program). IsNested p.operations) (sym (past_nothing s.programs program g)) none_nested
]

-- WORK makes no phase, and all else that comes next is the next phase.

-- how many operations are left
abbrev pub left_count : Option (List Operation) → ℕ
left_count None = 0
left_count (Some ops) = length ops

pub record WorksOn (version : ℕ) (p : Position) (last : Option Reply) : Type 0 where
  pub phase : phase_next version (went_on p last) None ≡ phase_next version p last
  pub moved : moved (went_on p last) None ≡ moved p last
  pub fewer : left_count (went_on p last).left < left_count p.left

first_work : (version count : ℕ) (p : Position) (r : Registers) (op : Operation) (ops : List Operation) → next_for version r op ≡ next.Work count → (phase_in version (first_move r (op ∷ ops)) None (Some ops) ≡ first_phase version r (after_work (op ∷ ops))) × (move_in (first_move r (op ∷ ops)) None (Some ops) ≡ first_move r (after_work (op ∷ ops)))
first_work version count p r (operation.Work n) ops h = (refl, refl)
first_work version count p r (operation.Repeat n) ops h = absurd cc
first_work version count p r operation.Again ops h = absurd cc
first_work version count p r (operation.Send to low high zero) ops h = absurd cc
first_work version count p r (operation.Receive from zero) ops h = absurd cc
first_work version count p r (operation.Call to low high zero) ops h = absurd cc
first_work version count p r (operation.Reply low high zero) ops h = absurd cc
first_work version count p r (operation.Create program priority) ops h = absurd cc
first_work version count p r (operation.Destroy victim) ops h = absurd cc

works_in : (version count : ℕ) (p : Position) (last : Option Reply) (ops : List Operation) (waits : Bool) → (p.replying && is_sent last) ≡ waits → p.left ≡ Some ops → next_of version p last ≡ next.Work count → WorksOn version p last
works_in version count p last ops true b e h = let no : next.Phase (phase_of version (filled p.registers last) open_receive) ≡ next.Work count = sym (rw (e, b) refl) ∙ h in absurd cc
works_in version count p last [] false b e h = let no : next.Phase phase.End ≡ next.Work count = sym (rw (e, b) refl) ∙ h in absurd cc
works_in version count p last (op ∷ ops) false b e h =
    let is : next_for version (filled p.registers last) op ≡ next.Work count = sym (rw (e, b) refl) ∙ h in
    let w = first_work version count p (filled p.registers last) op ops is in
    record { phase = rw (e, b) w.0; moved = rw (e, b) w.1; fewer = rw (e, b) (omega arith) }

pub works_on : (version count : ℕ) (p : Position) (last : Option Reply) → next_of version p last ≡ next.Work count → WorksOn version p last
works_on version count p last h = go p.left refl
  where
    go : (left : Option (List Operation)) → p.left ≡ left → WorksOn version p last
    go None e = let no : next.Phase phase.End ≡ next.Work count = sym (rw e refl) ∙ h in absurd cc
    go (Some ops) e = works_in version count p last ops (p.replying && is_sent last) refl e h

pub record CallsOn (version : ℕ) (p : Position) (last : Option Reply) (f : Phase) : Type 0 where
  pub phase : f ≡ phase_next version p last
  pub moved : went_on p last ≡ moved p last

phase_is : (f g : Phase) → next.Phase f ≡ next.Phase g → g ≡ f
phase_is f g h = cc

first_call : (version : ℕ) (r : Registers) (f : Phase) (op : Operation) (ops : List Operation) → next_for version r op ≡ next.Phase f → (f ≡ first_phase version r (after_work (op ∷ ops))) × (first_move r (op ∷ ops) ≡ first_move r (after_work (op ∷ ops)))
first_call version r f (operation.Work n) ops h = absurd cc
first_call version r f (operation.Repeat n) ops h = (phase_is _ f h, refl)
first_call version r f operation.Again ops h = (phase_is _ f h, refl)
first_call version r f (operation.Send to low high zero) ops h = (phase_is _ f h, refl)
first_call version r f (operation.Receive from zero) ops h = (phase_is _ f h, refl)
first_call version r f (operation.Call to low high zero) ops h = (phase_is _ f h, refl)
first_call version r f (operation.Reply low high zero) ops h = (phase_is _ f h, refl)
first_call version r f (operation.Create program priority) ops h = (phase_is _ f h, refl)
first_call version r f (operation.Destroy victim) ops h = (phase_is _ f h, refl)

calls_in : (version : ℕ) (p : Position) (last : Option Reply) (f : Phase) (ops : List Operation) (waits : Bool) → (p.replying && is_sent last) ≡ waits → p.left ≡ Some ops → next_of version p last ≡ next.Phase f → CallsOn version p last f
calls_in version p last f ops true b e h =
    let is : next.Phase (phase_of version (filled p.registers last) open_receive) ≡ next.Phase f = sym (rw (e, b) refl) ∙ h in
    record { phase = rw (e, b) (phase_is _ f is); moved = rw (e, b) refl }
calls_in version p last f [] false b e h =
    let is : next.Phase phase.End ≡ next.Phase f = sym (rw (e, b) refl) ∙ h in
    record { phase = rw (e, b) (phase_is _ f is); moved = rw (e, b) refl }
calls_in version p last f (op ∷ ops) false b e h =
    let is : next_for version (filled p.registers last) op ≡ next.Phase f = sym (rw (e, b) refl) ∙ h in
    let w = first_call version (filled p.registers last) f op ops is in
    record { phase = rw (e, b) w.0; moved = rw (e, b) w.1 }

pub calls_on : (version : ℕ) (p : Position) (last : Option Reply) (f : Phase) → next_of version p last ≡ next.Phase f → CallsOn version p last f
calls_on version p last f h = go p.left refl
  where
    go : (left : Option (List Operation)) → p.left ≡ left → CallsOn version p last f
    go None e =
        let is : next.Phase phase.End ≡ next.Phase f = sym (rw e refl) ∙ h in
        record { phase = rw e (phase_is _ f is); moved = rw e refl }
    go (Some ops) e = calls_in version p last f ops (p.replying && is_sent last) refl e h
