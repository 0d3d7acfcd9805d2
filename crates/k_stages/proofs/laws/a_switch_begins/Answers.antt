use Rattle.k_stages.proofs.Others.{begins_alike}
use Rattle.k_stages.proofs.laws.a_switch_begins.Goals as goal

pub returns : goal.returns
returns c = λ b w d s h at f. begins_alike b w h d s at f
