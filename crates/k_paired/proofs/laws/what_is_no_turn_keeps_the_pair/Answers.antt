use Rattle.k_paired.proofs.Pairs.{still_pair}
use Rattle.k_paired.proofs.laws.what_is_no_turn_keeps_the_pair.Goals as goal

pub returns : goal.returns
returns c = λ g b w v h n k. still_pair g b w h v n k
