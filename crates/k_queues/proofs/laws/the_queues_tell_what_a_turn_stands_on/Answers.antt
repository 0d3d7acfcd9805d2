use Rattle.k_queues.proofs.Turns.{queues_tell}
use Rattle.k_queues.proofs.laws.the_queues_tell_what_a_turn_stands_on.Goals as goal

pub returns : goal.returns
returns c = λ g b i good w h u. queues_tell g b good w h i u
