use Rattle.k_queues.proofs.Proper.{exact_queue}
use Rattle.k_queues.proofs.laws.a_queue_that_nobody_works_on_has_who_waits.Goals as goal

pub returns : goal.returns
returns c = λ g b p t table owner. exact_queue g b p t table owner
