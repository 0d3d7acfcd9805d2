use Rattle.k_queues.proofs.Proper.{proper_keeps}
use Rattle.k_queues.proofs.laws.every_turn_keeps_a_proper_board.Goals as goal

pub returns : goal.returns
returns c = λ g b b' i p names u t. proper_keeps g b b' i p names u t
