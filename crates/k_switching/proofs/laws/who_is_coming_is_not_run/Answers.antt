use Rattle.k_switching.proofs.Rules.{not_run}
use Rattle.k_switching.proofs.laws.who_is_coming_is_not_run.Goals as goal

pub returns : goal.returns
returns c = not_run
