use Rattle.k_stages.proofs.Others.{stages_stay}
use Rattle.k_stages.proofs.laws.each_turn_leaves_stages.Goals as goal

pub returns : goal.returns
returns c = λ g b b' w k i m h t. stages_stay g b w k i m b' h t
