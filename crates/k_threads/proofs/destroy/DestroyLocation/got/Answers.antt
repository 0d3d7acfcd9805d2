use Rattle.k_threads.proofs.destroy.DestroyLocation.got.Goals as goal

pub returns-in-Locked-Senders-clause-location : goal.returns-in-Locked-Senders-clause-location
returns-in-Locked-Senders-clause-location c = λ own. rw (c.in-Locked-Senders.is-0, c.in-Locked-Senders.is-1) (c.got_queue.ensures.location c.args.call own)

pub returns-in-Locked-Senders-clause-sound : goal.returns-in-Locked-Senders-clause-sound
returns-in-Locked-Senders-clause-sound c = c.got_queue.ensures.sound c.args.call (rw c.in-Locked-Senders.is-0 at c.requires.sound)
