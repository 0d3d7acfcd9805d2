use Rattle.k_stages.proofs.Others.{stage_alike}
use Rattle.k_stages.proofs.laws.each_switch_turn_is_a_stage.Goals as goal

pub returns : goal.returns
returns c = λ b w runner d holder parts h s p r at going an. stage_alike b w h runner d holder parts s p r at going an
