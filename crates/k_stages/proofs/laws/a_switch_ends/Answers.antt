use Rattle.k_stages.proofs.Others.{ends_alike}
use Rattle.k_stages.proofs.laws.a_switch_ends.Goals as goal

pub returns : goal.returns
returns c = λ b w d s o h at. ends_alike b w h d s o at
