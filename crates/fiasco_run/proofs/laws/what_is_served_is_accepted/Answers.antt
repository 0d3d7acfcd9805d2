use Rattle.fiasco_run.proofs.Accepted.{judged_in, run_of}
use Rattle.fiasco_run.proofs.laws.what_is_served_is_accepted.Goals as goal

pub returns-clause-run : goal.returns-clause-run
returns-clause-run c = run_of

pub returns-clause-check : goal.returns-clause-check
returns-clause-check c = judged_in
