use Rattle.k_threads.proofs.destroy.moves.returned_told.Goals as goal

pub returns-in-Released-clause-location : goal.returns-in-Released-clause-location
returns-in-Released-clause-location c = λ own. rw c.in-Released.is (c.released.ensures.location own)

pub returns-in-Released-clause-went : goal.returns-in-Released-clause-went
returns-in-Released-clause-went c = λ own. rw c.in-Released.is (c.released.ensures.went own)
