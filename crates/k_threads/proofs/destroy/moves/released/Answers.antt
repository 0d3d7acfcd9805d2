use Rattle.k_threads.proofs.destroy.moves.released.Goals as goal

pub returns-in-Pushed-clause-location : goal.returns-in-Pushed-clause-location
returns-in-Pushed-clause-location c = λ own. rw c.in-Pushed.is (c.pushed.ensures.returned c.args.call own)

pub returns-in-Pushed-clause-went : goal.returns-in-Pushed-clause-went
returns-in-Pushed-clause-went c = λ own. rw c.in-Pushed.is (c.pushed.ensures.went c.args.call own _)

pub returns-in-Pushed-clause-sound : goal.returns-in-Pushed-clause-sound
returns-in-Pushed-clause-sound c = c.pushed.ensures.sound c.args.call (rw c.in-Pushed.is at c.requires.sound)
