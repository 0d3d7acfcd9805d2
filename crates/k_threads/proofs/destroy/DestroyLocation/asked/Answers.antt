use Rattle.k_locks.specs.Hands.{nothing}
use Rattle.k_threads.proofs.destroy.DestroyLocation.asked.Goals as goal

pub returns-in-Outside-clause-step : goal.returns-in-Outside-clause-step
returns-in-Outside-clause-step c = λ own. rw c.in-Outside.is (c.outside_step.ensures own nothing)

pub returns-in-Locked-clause-step : goal.returns-in-Locked-clause-step
returns-in-Locked-clause-step c = λ own. rw c.in-Locked.is (c.locked_step.ensures.step own)

pub returns-in-Victim-clause-step : goal.returns-in-Victim-clause-step
returns-in-Victim-clause-step c = λ own. rw c.in-Victim.is (c.victim_step.ensures.step own)

pub returns-in-Visit-clause-step : goal.returns-in-Visit-clause-step
returns-in-Visit-clause-step c = λ own. rw c.in-Visit.is (c.visit_step.ensures.step own)
