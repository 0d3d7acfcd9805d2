use Rattle.k_locks.proofs.Words as words
use Rattle.k_locks.proofs.laws.an_exchange_is_of_words.Goals as goal

pub returns-clause-wins : goal.returns-clause-wins
returns-clause-wins c = words.wins

pub returns-clause-same : goal.returns-clause-same
returns-clause-same c = λ v w a b. (words.same_is v w a b, words.is_same v w)
