use Rattle.k_ending.proofs.Settled.{settled_fresh}
use Rattle.k_ending.proofs.laws.who_is_settled_is_fresh.Goals as goal

pub returns : goal.returns
returns c = λ script w n h low settled. settled_fresh script w h n low settled
