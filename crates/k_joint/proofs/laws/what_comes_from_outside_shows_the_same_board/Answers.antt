use Rattle.k_joint.proofs.Carried.{parked_shown, sliced_shown, started_shown}
use Rattle.k_joint.proofs.laws.what_comes_from_outside_shows_the_same_board.Goals as goal

pub returns-clause-started : goal.returns-clause-started
returns-clause-started c = started_shown

pub returns-clause-sliced : goal.returns-clause-sliced
returns-clause-sliced c = sliced_shown

pub returns-clause-parked : goal.returns-clause-parked
returns-clause-parked c = parked_shown
