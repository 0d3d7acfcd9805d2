use Rattle.k_ids.proofs.ContextSpelled.{context-read, context-whole, context-same, context-one, context-bits_small}
use Rattle.k_ids.proofs.laws.a_context_word_has_one_spelling.Goals as goal

pub returns-clause-read : goal.returns-clause-read
returns-clause-read c = context-read

pub returns-clause-spelled : goal.returns-clause-spelled
returns-clause-spelled c = context-whole

pub returns-clause-same : goal.returns-clause-same
returns-clause-same c = context-same

pub returns-clause-one : goal.returns-clause-one
returns-clause-one c = context-one

pub returns-clause-small : goal.returns-clause-small
returns-clause-small c = context-bits_small
