use Rattle.k_plays.specs.Scripts.{ranged_programs}
use Rattle.k_whole.proofs.Next.{asked_step}
use Rattle.k_whole.proofs.laws.who_is_asked_can_step.Goals as goal

pub returns : goal.returns
returns c = λ script calls b w es k n x h a. asked_step (ranged_programs script) b w h.pair n calls x a
