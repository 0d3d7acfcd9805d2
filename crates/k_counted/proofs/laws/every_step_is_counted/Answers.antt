use Rattle.k_counted.proofs.Tallied.{moved_counts}
use Rattle.k_counted.proofs.laws.every_step_is_counted.Goals as goal

pub returns : goal.returns
returns c = λ script w k limits room h r. moved_counts script limits room k w h r
