use Rattle.k_marks.proofs.Boot.{booted_tallied}
use Rattle.k_marks.proofs.Keeping.{unmarked_counted}
use Rattle.k_marks.proofs.laws.nothing_is_counted_at_the_start.Goals as goal

pub returns-clause-booted : goal.returns-clause-booted
returns-clause-booted c = booted_tallied

pub returns-clause-unmarked : goal.returns-clause-unmarked
returns-clause-unmarked c = λ table s h. unmarked_counted table s h
