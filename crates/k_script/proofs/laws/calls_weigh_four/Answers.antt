use Rattle.k_script.proofs.Quarter.{phases_few}
use Rattle.k_script.proofs.laws.calls_weigh_four.Goals as goal

pub returns : goal.returns
returns c = phases_few
