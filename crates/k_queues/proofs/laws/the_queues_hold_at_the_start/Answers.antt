use Rattle.k_queues.proofs.Turns.{queues_start}
use Rattle.k_queues.proofs.laws.the_queues_hold_at_the_start.Goals as goal

pub returns : goal.returns
returns c = λ g b h empty size. queues_start g b h empty size
