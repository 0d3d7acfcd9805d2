use Rattle.k_locks.specs.Locks.{rank_of}
use Rattle.k_locks.proofs.Ranks as ranks
use Rattle.k_locks.proofs.laws.the_lowest_is_held.Goals as goal

pub returns-clause-held : goal.returns-clause-held
returns-clause-held c = ranks.lowest_is_held

pub returns-clause-lowest : goal.returns-clause-lowest
returns-clause-lowest c = ranks.lowest_is_lowest

pub returns-clause-none : goal.returns-clause-none
returns-clause-none c = λ locks m. ranks.some_lowest locks (rank_of m) m
