use Rattle.std.proofs.Common.{arith}
use Rattle.k_owed.proofs.Turns.{switch_turn}
use Rattle.k_owed.proofs.laws.a_switch_turn_lowers_what_is_owed.Goals as goal

pub returns : goal.returns
returns c = λ g work b i count s p r proper inside at going an made room near near' switches.
    switch_turn g work b proper i count inside s p r at going an made room near near' switches switches
    (omega arith)
