use Rattle.k_grants.proofs.Granted.{turn_granted}
use Rattle.k_grants.proofs.laws.each_turn_is_granted.Goals as goal

pub returns : goal.returns
returns c = λ g b b' w k i f m wait free t. turn_granted g b b' w k i f m wait free t
