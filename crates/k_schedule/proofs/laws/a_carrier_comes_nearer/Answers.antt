use Rattle.k_schedule.proofs.Near.{near_falls}
use Rattle.k_schedule.proofs.laws.a_carrier_comes_nearer.Goals as goal

pub returns : goal.returns
returns c = near_falls
