use Rattle.k_paired.proofs.Pairs.{switch_pair}
use Rattle.k_paired.proofs.laws.a_switch_turn_keeps_the_pair.Goals as goal

pub returns : goal.returns
returns c = λ g b w k d step h low asked s p r at going an q. switch_pair g b w h k d step low asked s p r at going an q
