use Rattle.k_plays.specs.Scripts.{ranged_programs}
use Rattle.k_whole.proofs.Conditions.{create_won, receive_won}
use Rattle.k_whole.proofs.laws.exchanges_that_are_never_lost.Goals as goal

pub returns-clause-receive : goal.returns-clause-receive
returns-clause-receive c =
    λ script b w es k i call p r h at s a. receive_won (ranged_programs script) b h.pair.good i call p r at s a

pub returns-clause-create : goal.returns-clause-create
returns-clause-create c = λ script b w es k i call id r h at a. create_won (ranged_programs script) b h.pair.good i call id r at a
