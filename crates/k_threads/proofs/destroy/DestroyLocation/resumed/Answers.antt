use Rattle.std.proofs.Common.{sym}
use Rattle.k_threads.proofs.destroy.DestroyLocation.resumed.Goals as goal

pub returns-in-Got-clause-location : goal.returns-in-Got-clause-location
returns-in-Got-clause-location c = λ own. rw c.in-Got.is (c.got.ensures.location own)

pub returns-in-Got-clause-went : goal.returns-in-Got-clause-went
returns-in-Got-clause-went c = λ own. rw c.in-Got.is (sym (c.got.ensures.went own))

pub returns-in-Told-clause-location : goal.returns-in-Told-clause-location
returns-in-Told-clause-location c = λ own. rw c.in-Told.is (c.told.ensures.location own)

pub returns-in-Told-clause-went : goal.returns-in-Told-clause-went
returns-in-Told-clause-went c = λ own. rw c.in-Told.is (c.told.ensures.went own)
