use Rattle.fiasco_run.proofs.Exact.{big_done, check_done, exact, run_done}
use Rattle.fiasco_run.proofs.Flushed.{no_faults}
use Rattle.fiasco_run.proofs.serve.top.Goals as goal

pub returns-clause-run : goal.returns-clause-run
returns-clause-run g c = run_done _ c.due-due.result _ _ _ _ _ _ _ _ c.due-due.ensures.cause c.put_due.ensures.put

pub returns-clause-check : goal.returns-clause-check
returns-clause-check g c = check_done _ c.due-due.result _ _ _ _ _ _ _ _ c.due-due.ensures.cause c.put_due.ensures.put

pub returns-clause-big : goal.returns-clause-big
returns-clause-big g c = big_done _ c.due-due.result _ _ _ _ _ _ _ _ c.due-due.ensures.cause c.put_due.ensures.put

pub returns-clause-exact : goal.returns-clause-exact
returns-clause-exact g c = exact _ c.due-due.result _ _ _ _ _ _ _ _ c.due-due.ensures.cause c.put_due.ensures.put

pub returns-clause-done : goal.returns-clause-done
returns-clause-done g c = no_faults c.due-due.result _ _ _ _ _ _ _ c.put_due.ensures.put c.due-due.ensures.calm
