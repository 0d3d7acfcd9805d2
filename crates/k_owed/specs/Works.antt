-- How much work comes before the next call of a program.
use Rattle.std.specs.Prelude.{◌≡◌, ℕ, ◌+◌, ◌<◌, Option, Some, None, List, [], ◌∷◌}
use Rattle.k_ids.specs.declared.calls.Reply.{Reply}
use Rattle.k_script.specs.declared.operation.Operation.{Operation}
use Rattle.k_script.specs.declared.operation.Operation.TheVariants as operation
use Rattle.k_script.specs.declared.registers.Next.TheVariants as next
use Rattle.k_script.specs.Plays.{Position}
use Rattle.k_board.specs.Words.{Programs}

-- `work` bounds what comes before the next call: a work takes its count and one more from it, whatever the
-- last
-- reply was.
pub record CountsWork (g : Programs) (work : Position → ℕ) : Type 0 where
  pub falls : (p : Position) (last : Option Reply) (count : ℕ) → g.next p last ≡ next.Work count →
      work (g.moved p last) + count < work p

-- IN A PROGRAM THAT IS WRITTEN OUT FLAT

-- the works with which these operations begin
abbrev pub leading_work : List Operation → ℕ
leading_work [] = 0
leading_work (operation.Work count ∷ ops) = 1 + count + leading_work ops
leading_work (op ∷ ops) = 0

abbrev pub work_in : Option (List Operation) → ℕ
work_in None = 0
work_in (Some ops) = leading_work ops

abbrev pub work_ahead : Position → ℕ
work_ahead p = work_in p.left
