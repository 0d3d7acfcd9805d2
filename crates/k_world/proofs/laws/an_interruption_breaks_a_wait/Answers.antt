use Rattle.k_world.proofs.Orders.{interrupted_broken}
use Rattle.k_world.proofs.laws.an_interruption_breaks_a_wait.Goals as goal

pub returns : goal.returns
returns c = interrupted_broken
