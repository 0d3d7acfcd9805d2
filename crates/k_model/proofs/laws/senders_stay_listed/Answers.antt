use Rattle.k_model.proofs.Listed.{opened-listed, acted-listed}
use Rattle.k_model.proofs.laws.senders_stay_listed.Goals as goal

pub returns-clause-opening : goal.returns-clause-opening
returns-clause-opening c = opened-listed

pub returns-clause-kept : goal.returns-clause-kept
returns-clause-kept c = λ k e may s l. acted-listed k e.who e.serial e.act may s l
