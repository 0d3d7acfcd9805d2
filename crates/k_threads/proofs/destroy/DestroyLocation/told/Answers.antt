use Rattle.k_locks.specs.Hands.{nothing}
use Rattle.k_threads.proofs.destroy.DestroyLocation.told.Goals as goal

pub returns-in-Outside-clause-location : goal.returns-in-Outside-clause-location
returns-in-Outside-clause-location c = λ own. rw c.in-Outside.is (c.outside_told.ensures.location c.args.call own)

pub returns-in-Outside-clause-went : goal.returns-in-Outside-clause-went
returns-in-Outside-clause-went c = λ own. rw c.in-Outside.is (c.outside_told.ensures.went c.args.call own nothing)

pub returns-in-Locked-clause-location : goal.returns-in-Locked-clause-location
returns-in-Locked-clause-location c = λ own. rw c.in-Locked.is (c.locked_told.ensures.location own)

pub returns-in-Locked-clause-went : goal.returns-in-Locked-clause-went
returns-in-Locked-clause-went c = λ own. rw c.in-Locked.is (c.locked_told.ensures.went own _)

pub returns-in-Victim-clause-location : goal.returns-in-Victim-clause-location
returns-in-Victim-clause-location c = λ own. rw c.in-Victim.is (c.victim_told.ensures.location own)

pub returns-in-Victim-clause-went : goal.returns-in-Victim-clause-went
returns-in-Victim-clause-went c = λ own. rw c.in-Victim.is (c.victim_told.ensures.went own _)

pub returns-in-Visit-clause-location : goal.returns-in-Visit-clause-location
returns-in-Visit-clause-location c = λ own. rw c.in-Visit.is (c.visit_told.ensures.location own)

pub returns-in-Visit-clause-went : goal.returns-in-Visit-clause-went
returns-in-Visit-clause-went c = λ own. rw c.in-Visit.is (c.visit_told.ensures.went own _)

pub returns-in-UnlistVictim-clause-location : goal.returns-in-UnlistVictim-clause-location
returns-in-UnlistVictim-clause-location c = λ own. rw c.in-UnlistVictim.is (c.unlist_told.ensures.location c.args.call own)

pub returns-in-UnlistVictim-clause-went : goal.returns-in-UnlistVictim-clause-went
returns-in-UnlistVictim-clause-went c = λ own. rw c.in-UnlistVictim.is (c.unlist_told.ensures.went c.args.call own nothing)

pub returns-in-Pushing-clause-location : goal.returns-in-Pushing-clause-location
returns-in-Pushing-clause-location c = λ own. rw c.in-Pushing.is (c.pushing_told.ensures.location c.args.call own)

pub returns-in-Pushing-clause-went : goal.returns-in-Pushing-clause-went
returns-in-Pushing-clause-went c = λ own. rw c.in-Pushing.is (c.pushing_told.ensures.went c.args.call own _)

pub returns-in-Returned-clause-location : goal.returns-in-Returned-clause-location
returns-in-Returned-clause-location c = λ own. rw c.in-Returned.is (c.returned_told.ensures.location own)

pub returns-in-Returned-clause-went : goal.returns-in-Returned-clause-went
returns-in-Returned-clause-went c = λ own. rw c.in-Returned.is (c.returned_told.ensures.went own)

pub returns-in-Outside-clause-sound : goal.returns-in-Outside-clause-sound
returns-in-Outside-clause-sound c = c.outside_told.ensures.sound c.args.call

pub returns-in-UnlistVictim-clause-sound : goal.returns-in-UnlistVictim-clause-sound
returns-in-UnlistVictim-clause-sound c = c.unlist_told.ensures.sound c.args.call

pub returns-in-Pushing-clause-sound : goal.returns-in-Pushing-clause-sound
returns-in-Pushing-clause-sound c = c.pushing_told.ensures.sound c.args.call (rw c.in-Pushing.is at c.requires.sound)
