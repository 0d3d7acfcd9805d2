use Rattle.k_good.proofs.Goods.{good_keeps}
use Rattle.k_good.proofs.laws.every_turn_keeps_a_good_board.Goals as goal

pub returns : goal.returns
returns c = λ g b b' i h q t. good_keeps g b b' i h q t
