use Rattle.k_model.proofs.Opening.{opened-sound}
use Rattle.k_model.proofs.Sound.{acted-sound}
use Rattle.k_model.proofs.laws.lists_stay_sound.Goals as goal

pub returns-clause-opening : goal.returns-clause-opening
returns-clause-opening c = opened-sound

pub returns-clause-kept : goal.returns-clause-kept
returns-clause-kept c = λ k e may s. acted-sound k e.who e.serial e.act may s
