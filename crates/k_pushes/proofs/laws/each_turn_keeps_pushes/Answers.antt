use Rattle.k_pushes.proofs.Kept.{pushes_stay}
use Rattle.k_pushes.proofs.laws.each_turn_keeps_pushes.Goals as goal

pub returns : goal.returns
returns c = λ g b b' w k i m q free t. pushes_stay g b b' w k i m q free t
