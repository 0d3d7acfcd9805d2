use Rattle.k_lowered.proofs.Owes.{parts_same}
use Rattle.k_lowered.proofs.laws.the_work_is_that_of_the_board.Goals as goal

pub returns : goal.returns
returns c = λ script w b view state n limits k low. parts_same script limits w b view state k n low
