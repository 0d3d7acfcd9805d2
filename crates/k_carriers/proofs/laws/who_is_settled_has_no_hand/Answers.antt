use Rattle.k_carriers.proofs.Carriers.{settled_free}
use Rattle.k_carriers.proofs.laws.who_is_settled_has_no_hand.Goals as goal

pub returns : goal.returns
returns c = settled_free
