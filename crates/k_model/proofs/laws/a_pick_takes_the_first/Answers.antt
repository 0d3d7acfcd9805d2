use Rattle.k_model.proofs.Places.{pick_waits, pick_takes}
use Rattle.k_model.proofs.laws.a_pick_takes_the_first.Goals as goal

pub returns-clause-waits : goal.returns-clause-waits
returns-clause-waits c = pick_waits

pub returns-clause-takes : goal.returns-clause-takes
returns-clause-takes c = pick_takes
