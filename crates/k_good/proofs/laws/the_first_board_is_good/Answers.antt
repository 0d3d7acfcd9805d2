use Rattle.k_good.proofs.Goods.{good_start}
use Rattle.k_good.proofs.laws.the_first_board_is_good.Goals as goal

pub returns : goal.returns
returns c = λ g b h free n. good_start g b h free n
