use Rattle.k_locks.specs.Hands.{nothing}
use Rattle.k_ipc.proofs.send.SendLocation.asked.Goals as goal

pub returns-in-Outside-clause-step : goal.returns-in-Outside-clause-step
returns-in-Outside-clause-step c = rw c.in-Outside.is (c.outside_step.ensures c.args.own nothing)

pub returns-in-Pushing-clause-step : goal.returns-in-Pushing-clause-step
returns-in-Pushing-clause-step c = rw c.in-Pushing.is (c.pushing_step.ensures c.args.own c.in-Pushing.queue)
