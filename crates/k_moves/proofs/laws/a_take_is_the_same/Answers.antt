use Rattle.k_moves.proofs.Takes.{take_is_same}
use Rattle.k_moves.proofs.Wins.{bits_same, take_lost}
use Rattle.k_moves.proofs.laws.a_take_is_the_same.Goals as goal

pub returns-clause-words : goal.returns-clause-words
returns-clause-words c = bits_same

pub returns-clause-won : goal.returns-clause-won
returns-clause-won c = take_is_same

pub returns-clause-lost : goal.returns-clause-lost
returns-clause-lost c = take_lost
