use Rattle.k_stages.proofs.Others.{wakes_alike}
use Rattle.k_stages.proofs.laws.a_thread_is_woken.Goals as goal

pub returns : goal.returns
returns c = λ b w k i h l at. wakes_alike b w h k i l at
