use Rattle.k_world.proofs.Orders.{asks_again}
use Rattle.k_world.proofs.laws.asking_again_adds_nothing.Goals as goal

pub returns : goal.returns
returns c = asks_again
