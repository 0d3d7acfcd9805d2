use Rattle.k_pushes.proofs.Carried.{calm_is}
use Rattle.k_pushes.proofs.laws.who_is_pushed_makes_no_step.Goals as goal

pub returns : goal.returns
returns c = λ g b w k i m. calm_is g b w k i m
