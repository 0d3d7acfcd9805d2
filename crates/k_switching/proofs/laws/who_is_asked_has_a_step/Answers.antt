use Rattle.k_switching.proofs.Rules.{has_step}
use Rattle.k_switching.proofs.laws.who_is_asked_has_a_step.Goals as goal

pub returns : goal.returns
returns c = has_step
