use Rattle.k_threads.proofs.DestroyBound.{in_time, rested}
use Rattle.k_threads.proofs.laws.left_is_the_most_that_a_destroy_makes.Goals as goal

pub returns-clause-in_time : goal.returns-clause-in_time
returns-clause-in_time c = in_time

pub returns-clause-rest : goal.returns-clause-rest
returns-clause-rest c = rested
