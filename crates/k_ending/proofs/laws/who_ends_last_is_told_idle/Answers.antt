use Rattle.k_ending.proofs.Last.{ends_idle}
use Rattle.k_ending.proofs.laws.who_ends_last_is_told_idle.Goals as goal

pub returns : goal.returns
returns c = λ script w n h low fresh e. ends_idle script w h n low fresh e
