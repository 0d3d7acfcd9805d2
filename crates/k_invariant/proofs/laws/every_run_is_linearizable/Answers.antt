use Rattle.k_room.proofs.Wholes.{whole_few}
use Rattle.k_invariant.proofs.Runs.{run_holds}
use Rattle.k_invariant.proofs.laws.every_run_is_linearizable.Goals as goal

pub returns-clause-holds : goal.returns-clause-holds
returns-clause-holds c = λ script b b' es limits start run. run_holds script limits b start es b' run

pub returns-clause-follows : goal.returns-clause-follows
returns-clause-follows c =
    λ script b b' es limits start run. let h = run_holds script limits b start es b' run in
    (h.0, h.1.ledgers.leads.follows, whole_few script es h.0 limits h.1.ledgers.leads.follows)
