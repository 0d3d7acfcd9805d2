use Rattle.k_store.proofs.store.Store.empty.Goals as goal

pub returns-clause-placed : goal.returns-clause-placed
returns-clause-placed c = λ script h. c.swap.ensures.placed script h tt
