use Rattle.k_joint.proofs.Moves.{move_shown}
use Rattle.k_joint.proofs.laws.every_move_is_turns_of_the_board.Goals as goal

pub returns : goal.returns
returns c = move_shown
