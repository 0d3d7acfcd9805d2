use Rattle.k_kernel.proofs.Outside.{parked_holds, sliced_holds, started_holds}
use Rattle.k_kernel.proofs.laws.what_comes_from_outside_keeps_the_world.Goals as goal

pub returns-clause-started : goal.returns-clause-started
returns-clause-started c = λ script w k number h. started_holds script w h k number

pub returns-clause-sliced : goal.returns-clause-sliced
returns-clause-sliced c = λ script w k h. sliced_holds script w h k

pub returns-clause-parked : goal.returns-clause-parked
returns-clause-parked c = λ script w k h. parked_holds script w h k
