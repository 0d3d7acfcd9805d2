use Rattle.k_paired.proofs.Pairs.{thread_pair}
use Rattle.k_paired.proofs.laws.a_thread_turn_keeps_the_pair.Goals as goal

pub returns : goal.returns
returns c = λ g b b' w k i f h asked q wait free t. thread_pair g b w h k i b' f asked q wait free t
