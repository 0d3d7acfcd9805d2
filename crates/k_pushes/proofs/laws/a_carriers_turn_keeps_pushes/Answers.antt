use Rattle.k_pushes.proofs.Carried.{carriers_keep}
use Rattle.k_pushes.proofs.laws.a_carriers_turn_keeps_pushes.Goals as goal

pub returns : goal.returns
returns c = λ g b b' i h n t. carriers_keep g b i b' h n t
