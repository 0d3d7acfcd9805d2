use Rattle.k_within.proofs.Steps.{is_runnable}
use Rattle.k_within.proofs.laws.a_move_can_be_made.Goals as goal

pub returns : goal.returns
returns c =
    λ script w b view state n limits k words inside can sound.
    is_runnable script limits w b view state k words n inside can sound
