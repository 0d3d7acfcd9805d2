use Rattle.k_paired.proofs.Pairs.{end_pair}
use Rattle.k_paired.proofs.laws.a_switch_ends_in_a_pair.Goals as goal

pub returns : goal.returns
returns c = λ g b w k step s o h low hand at q. end_pair g b w h k step s o low hand at q
