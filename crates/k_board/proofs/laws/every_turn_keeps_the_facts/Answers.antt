use Rattle.k_board.proofs.Turning.{turn_keeps}
use Rattle.k_board.proofs.laws.every_turn_keeps_the_facts.Goals as goal

pub returns : goal.returns
returns c = λ g b b' i h s t. turn_keeps g b h i b' s t
