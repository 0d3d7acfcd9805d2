use Rattle.k_scheduled.proofs.Good.{next_due, next_there}
use Rattle.k_scheduled.proofs.laws.the_next_start_is_due.Goals as goal

pub returns-clause-due : goal.returns-clause-due
returns-clause-due c = λ script w line lines number g e. next_due script w line lines g number e

pub returns-clause-there : goal.returns-clause-there
returns-clause-there c = λ script w line lines number g e. next_there script w line lines g number e
