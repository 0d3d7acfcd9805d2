use Rattle.k_moves.proofs.Rules.{begins_same, gives_same, interrupted_same, place_same, readied_same, target_same}
use Rattle.k_moves.proofs.laws.a_carrier_follows_the_same_rules.Goals as goal

pub returns-clause-interrupted : goal.returns-clause-interrupted
returns-clause-interrupted c = interrupted_same

pub returns-clause-begins : goal.returns-clause-begins
returns-clause-begins c = begins_same

pub returns-clause-readied : goal.returns-clause-readied
returns-clause-readied c = readied_same

pub returns-clause-target : goal.returns-clause-target
returns-clause-target c = target_same

pub returns-clause-place : goal.returns-clause-place
returns-clause-place c = place_same

pub returns-clause-gives : goal.returns-clause-gives
returns-clause-gives c = gives_same
