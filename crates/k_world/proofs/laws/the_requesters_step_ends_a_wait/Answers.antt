use Rattle.k_world.proofs.Orders.{got_uncounted}
use Rattle.k_world.proofs.laws.the_requesters_step_ends_a_wait.Goals as goal

pub returns : goal.returns
returns c = got_uncounted
