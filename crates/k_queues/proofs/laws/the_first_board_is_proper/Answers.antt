use Rattle.k_queues.proofs.Proper.{proper_start}
use Rattle.k_queues.proofs.laws.the_first_board_is_proper.Goals as goal

pub returns : goal.returns
returns c = λ g b h free agree count alive empty size. proper_start g b h free agree count alive empty size
