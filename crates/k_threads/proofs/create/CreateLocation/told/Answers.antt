use Rattle.k_locks.specs.Hands.{nothing}
use Rattle.k_threads.proofs.create.CreateLocation.told.Goals as goal

pub returns-in-Outside-clause-went : goal.returns-in-Outside-clause-went
returns-in-Outside-clause-went c = λ own. rw c.in-Outside.is (c.outside_went.ensures.went c.args.call own nothing)

pub returns-in-Locked-clause-location : goal.returns-in-Locked-clause-location
returns-in-Locked-clause-location c = λ own. rw c.in-Locked.is (c.locked_told.ensures.location c.args.call own)

pub returns-in-Locked-clause-went : goal.returns-in-Locked-clause-went
returns-in-Locked-clause-went c = λ own. rw c.in-Locked.is (c.locked_told.ensures.went c.args.call own)
