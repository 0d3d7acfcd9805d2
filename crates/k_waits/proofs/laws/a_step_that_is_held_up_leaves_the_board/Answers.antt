use Rattle.k_waits.proofs.HeldUp.{still}
use Rattle.k_waits.proofs.laws.a_step_that_is_held_up_leaves_the_board.Goals as goal

pub returns : goal.returns
returns c = still
