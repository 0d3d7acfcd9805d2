use Rattle.k_threads.proofs.destroy.moves.pushing_told.Goals as goal

pub returns-in-Released-clause-location : goal.returns-in-Released-clause-location
returns-in-Released-clause-location c = λ call own. rw c.in-Released.is (c.pushed.ensures.location call own c.args.lists)

pub returns-in-Released-clause-went : goal.returns-in-Released-clause-went
returns-in-Released-clause-went c = λ call own h. rw c.in-Released.is (c.pushed.ensures.went call own h)
