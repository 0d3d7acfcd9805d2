use Rattle.k_model.proofs.Answered.{opened-answered, acted-answered}
use Rattle.k_model.proofs.laws.replies_stay_in_order.Goals as goal

pub returns-clause-opening : goal.returns-clause-opening
returns-clause-opening c = opened-answered

pub returns-clause-kept : goal.returns-clause-kept
returns-clause-kept c = λ k e may s a. acted-answered k e.who e.serial e.act may s a
