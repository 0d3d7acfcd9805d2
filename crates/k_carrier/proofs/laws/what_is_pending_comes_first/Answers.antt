use Rattle.k_carrier.proofs.Pending.{switches_first}
use Rattle.k_carrier.proofs.laws.what_is_pending_comes_first.Goals as goal

pub returns : goal.returns
returns c = switches_first
