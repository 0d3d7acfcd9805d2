use Rattle.k_threads.proofs.destroy.moves.victim_told.Goals as goal

pub returns-in-FreeSender-default-clause-location : goal.returns-in-FreeSender-default-clause-location
returns-in-FreeSender-default-clause-location c = λ own. rw c.in-FreeSender-default.is-0 (c.freeing_told.ensures.location c.args.call own)

pub returns-in-FreeSender-default-clause-went : goal.returns-in-FreeSender-default-clause-went
returns-in-FreeSender-default-clause-went c = λ own h. rw c.in-FreeSender-default.is-0 (c.freeing_told.ensures.went c.args.call own h)

pub returns-in-FreeSender-default-clause-sound : goal.returns-in-FreeSender-default-clause-sound
returns-in-FreeSender-default-clause-sound c = c.freeing_told.ensures.sound c.args.call
