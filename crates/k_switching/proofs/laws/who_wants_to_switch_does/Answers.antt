use Rattle.k_switching.proofs.Rules.{switches}
use Rattle.k_switching.proofs.laws.who_wants_to_switch_does.Goals as goal

pub returns : goal.returns
returns c = switches
