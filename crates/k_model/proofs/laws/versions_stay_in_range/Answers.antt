use Rattle.k_model.proofs.Ranged.{opened-ranged, acted-ranged}
use Rattle.k_model.proofs.laws.versions_stay_in_range.Goals as goal

pub returns-clause-opening : goal.returns-clause-opening
returns-clause-opening c = opened-ranged

pub returns-clause-kept : goal.returns-clause-kept
returns-clause-kept c = λ k e may s r. acted-ranged k e.who e.serial e.act may s r
