use Rattle.k_ids.proofs.StateSpelled.{state-read, state-whole, state-same, state-one, state-bits_small}
use Rattle.k_ids.proofs.laws.a_state_word_has_one_spelling.Goals as goal

pub returns-clause-read : goal.returns-clause-read
returns-clause-read c = state-read

pub returns-clause-spelled : goal.returns-clause-spelled
returns-clause-spelled c = state-whole

pub returns-clause-same : goal.returns-clause-same
returns-clause-same c = state-same

pub returns-clause-one : goal.returns-clause-one
returns-clause-one c = state-one

pub returns-clause-small : goal.returns-clause-small
returns-clause-small c = state-bits_small
