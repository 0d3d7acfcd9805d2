use Rattle.k_schedule.proofs.Worked.{small_good, small_laws, small_run, small_turns}
use Rattle.k_schedule.proofs.laws.a_schedule_is_worked_out.Goals as goal

pub returns-clause-laws : goal.returns-clause-laws
returns-clause-laws c = small_laws

pub returns-clause-good : goal.returns-clause-good
returns-clause-good c = small_good

pub returns-clause-run : goal.returns-clause-run
returns-clause-run c = small_run

pub returns-clause-turns : goal.returns-clause-turns
returns-clause-turns c = small_turns
