use Rattle.k_switching.proofs.Rules.{has_reason}
use Rattle.k_switching.proofs.laws.who_switches_has_a_reason.Goals as goal

pub returns : goal.returns
returns c = has_reason
