use Rattle.k_world.proofs.Steps.{step_counted}
use Rattle.k_world.proofs.laws.a_marked_step_is_counted.Goals as goal

pub returns : goal.returns
returns c = step_counted
