use Rattle.k_switching.proofs.Traced.{first_is, second_is, ends_idle}
use Rattle.k_switching.proofs.laws.a_run_goes_as_worked_out.Goals as goal

pub returns-clause-first : goal.returns-clause-first
returns-clause-first c = first_is

pub returns-clause-second : goal.returns-clause-second
returns-clause-second c = second_is

pub returns-clause-idle : goal.returns-clause-idle
returns-clause-idle c = ends_idle.0

pub returns-clause-alone : goal.returns-clause-alone
returns-clause-alone c = ends_idle.1
