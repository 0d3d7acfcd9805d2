use Rattle.k_within.proofs.Steps.{board_within, step_within}
use Rattle.k_within.proofs.laws.a_step_is_within.Goals as goal

pub returns-clause-board : goal.returns-clause-board
returns-clause-board c = λ script b es k i h t. board_within script b es k h i t

pub returns-clause-carrier : goal.returns-clause-carrier
returns-clause-carrier c =
    λ script w b view state n limits k words inside.
    step_within script limits w b view state k words n inside
