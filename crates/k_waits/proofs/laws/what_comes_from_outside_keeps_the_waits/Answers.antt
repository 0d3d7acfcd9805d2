use Rattle.k_waits.proofs.Outside.{parked_waits, sliced_waits, started_waits}
use Rattle.k_waits.proofs.laws.what_comes_from_outside_keeps_the_waits.Goals as goal

pub returns-clause-started : goal.returns-clause-started
returns-clause-started c = λ script w number h. started_waits script w h number

pub returns-clause-sliced : goal.returns-clause-sliced
returns-clause-sliced c = λ script w h. sliced_waits script w h

pub returns-clause-parked : goal.returns-clause-parked
returns-clause-parked c = λ script w h. parked_waits script w h
