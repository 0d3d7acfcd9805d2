use Rattle.k_world.proofs.Orders.{dropped_broken}
use Rattle.k_world.proofs.laws.a_dropped_goal_breaks_a_wait.Goals as goal

pub returns : goal.returns
returns c = dropped_broken
