-- A program counts the works with which it goes on.
use Rattle.std.proofs.Common.{◌≡◌, ℕ, ◌+◌, ◌<◌, ◌≤◌, Bool, true, false, Option, Some, None, List, [], ◌∷◌}
use Rattle.std.proofs.Common.{refl, ap, subst, arith}
use Rattle.std.specs.Prelude.{◌&&◌, if◌then◌else◌}
use Rattle.k_ids.specs.declared.calls.Phase.{Phase}
use Rattle.k_ids.specs.declared.calls.Phase.TheVariants as phase
use Rattle.k_ids.specs.declared.calls.Reply.{Reply}
use Rattle.k_script.specs.declared.operation.Operation.{Operation}
use Rattle.k_script.specs.declared.operation.Operation.TheVariants as operation
use Rattle.k_script.specs.declared.registers.Next.TheVariants as next
use Rattle.k_script.specs.declared.registers.Registers.{Registers}
use Rattle.k_script.specs.Plays.{Position, coming, filled, first_move, first_next, is_sent, next_in, next_of}
use Rattle.k_script.specs.Plays.{open_receive, phase_of, went_in, went_on}
use Rattle.k_script.specs.Script.{Script}
use Rattle.k_plays.specs.Scripts.{names_table, ranged_programs, within_table}
use Rattle.k_plays.specs.Messages.{sends_words}
use Rattle.k_owed.specs.Works.{CountsWork, leading_work, work_ahead, work_in}

-- a call isn't work, even where it becomes the end
call_is_none : (table : ℕ) (f : Phase) (count : ℕ) → within_table table (next.Phase f) ≡ next.Work count → ⊥
call_is_none table f count e = go (names_table table f && sends_words f) e
  where
    go : (t : Bool) → (if t then next.Phase f else next.Phase phase.End) ≡ next.Work count → ⊥
    go true q = cc
    go false q = cc

work_count : {n m : ℕ} → next.Work n ≡ next.Work m → n ≡ m
work_count e = cc

module _ (version table : ℕ) (r : Registers) where
  by_list : (ops : List Operation) (count : ℕ) → within_table table (first_next version r ops) ≡ next.Work
      count →
      work_in (first_move r ops).left + count < leading_work ops
  by_list [] count e = absurd (call_is_none table phase.End count e)
  by_list (operation.Work n ∷ ops) count e = let same = work_count e in omega (arith, same)
  by_list (operation.Send to low high zero ∷ ops) count e =
      absurd (call_is_none table (phase_of version r (operation.Send to low high zero)) count e)
  by_list (operation.Receive from zero ∷ ops) count e =
      absurd (call_is_none table (phase_of version r (operation.Receive from zero)) count e)
  by_list (operation.Call to low high zero ∷ ops) count e =
      absurd (call_is_none table (phase_of version r (operation.Call to low high zero)) count e)
  by_list (operation.Reply low high zero ∷ ops) count e =
      absurd (call_is_none table (phase_of version r (operation.Reply low high zero)) count e)
  by_list (operation.Create program priority ∷ ops) count e =
      absurd (call_is_none table (phase_of version r (operation.Create program priority)) count e)
  by_list (operation.Destroy victim ∷ ops) count e =
      absurd (call_is_none table (phase_of version r (operation.Destroy victim)) count e)
  by_list (operation.Repeat n ∷ ops) count e =
      absurd (call_is_none table (phase_of version r (operation.Repeat n)) count e)
  by_list (operation.Again ∷ ops) count e = absurd (call_is_none table (phase_of version r operation.Again)
      count e)

  -- an open receive after a reply that was sent is a call
  by_coming : (replied : Bool) (ops : List Operation) (count : ℕ) →
      within_table table (first_next version r (if replied then open_receive ∷ ops else ops)) ≡ next.Work
      count →
      work_in (first_move r (if replied then open_receive ∷ ops else ops)).left + count < leading_work ops
  by_coming true ops count e = absurd (call_is_none table (phase_of version r open_receive) count e)
  by_coming false ops count e = by_list ops count e

work_falls : (script : Script) (p : Position) (last : Option Reply) (left : Option (List Operation))
    (count : ℕ) →
    p.left ≡ left → within_table script.table (next_in script.version p last left) ≡ next.Work count →
    work_in (went_in p last left).left + count < work_in left
work_falls script p last None count is e = absurd (call_is_none script.table phase.End count e)
work_falls script p last (Some ops) count is e =
    by_coming script.version script.table (filled p.registers last) (p.replying && is_sent last) ops count e

pub counts_work : (script : Script) → CountsWork (ranged_programs script) work_ahead
counts_work script = record { falls = λ p last count e. work_falls script p last p.left count refl e }
