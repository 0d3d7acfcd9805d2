use Rattle.k_points.proofs.Status.{waits_unanswered}
use Rattle.k_points.proofs.laws.calls_that_wait_are_unanswered.Goals as goal

pub returns : goal.returns
returns c = λ b k sh an t w e. waits_unanswered b k sh.lines an t w e
