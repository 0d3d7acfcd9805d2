use Rattle.k_locks.specs.Hands.{nothing}
use Rattle.k_threads.proofs.create.CreateLocation.asked.Goals as goal

pub returns-in-Outside-clause-step : goal.returns-in-Outside-clause-step
returns-in-Outside-clause-step c = λ own. rw c.in-Outside.is (c.outside_step.ensures own nothing)

pub returns-in-Locked-clause-step : goal.returns-in-Locked-clause-step
returns-in-Locked-clause-step c = λ own. rw c.in-Locked.is (c.locked_step.ensures.step own)

pub returns-in-PushCreated-clause-step : goal.returns-in-PushCreated-clause-step
returns-in-PushCreated-clause-step c = λ own. rw c.in-PushCreated.is (c.pushing_step.ensures own c.in-PushCreated.numbers)
