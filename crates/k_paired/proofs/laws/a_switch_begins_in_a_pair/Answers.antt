use Rattle.k_paired.proofs.Pairs.{begin_pair}
use Rattle.k_paired.proofs.laws.a_switch_begins_in_a_pair.Goals as goal

pub returns : goal.returns
returns c = λ g b w k step s h low n e at f q. begin_pair g b w h k step s low n e at f q
