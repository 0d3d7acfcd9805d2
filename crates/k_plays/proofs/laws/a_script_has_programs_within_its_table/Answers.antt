use Rattle.k_plays.proofs.Tables.{own_are, ranged_are, ranged_fit, ranged_words}
use Rattle.k_plays.proofs.laws.a_script_has_programs_within_its_table.Goals as goal

pub returns-clause-fit : goal.returns-clause-fit
returns-clause-fit c = ranged_fit

pub returns-clause-words : goal.returns-clause-words
returns-clause-words c = ranged_words

pub returns-clause-ranged : goal.returns-clause-ranged
returns-clause-ranged c = ranged_are

pub returns-clause-own : goal.returns-clause-own
returns-clause-own c = own_are
