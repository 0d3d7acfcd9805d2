use Rattle.k_model.proofs.Sound.{killed_absent, killed_empty, killed_nowhere}
use Rattle.k_model.proofs.laws.the_destroyed_wait_nowhere.Goals as goal

pub returns-clause-absent : goal.returns-clause-absent
returns-clause-absent c = killed_absent

pub returns-clause-empty : goal.returns-clause-empty
returns-clause-empty c = killed_empty

pub returns-clause-nowhere : goal.returns-clause-nowhere
returns-clause-nowhere c = killed_nowhere
