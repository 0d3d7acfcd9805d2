use Rattle.k_paired.proofs.Pairs.{wake_pair}
use Rattle.k_paired.proofs.laws.a_thread_wakes_in_a_pair.Goals as goal

pub returns : goal.returns
returns c = λ g b w k i step h low n e inside at q. wake_pair g b w h k i step low n e inside at q
