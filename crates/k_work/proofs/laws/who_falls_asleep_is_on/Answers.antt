use Rattle.k_work.proofs.Asleep.{asleep_on}
use Rattle.k_work.proofs.laws.who_falls_asleep_is_on.Goals as goal

pub returns : goal.returns
returns c = λ g b w i h at alive. asleep_on g b w i h at alive
