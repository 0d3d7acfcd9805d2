use Rattle.k_queues.proofs.Turns.{turn_keeps_queues}
use Rattle.k_queues.proofs.laws.every_turn_keeps_the_queues.Goals as goal

pub returns : goal.returns
returns c = λ g b b' i good w h t. turn_keeps_queues g b good w h i b' t
