use Rattle.k_schedule.proofs.Runs.{run_one}
use Rattle.k_schedule.proofs.laws.a_script_has_one_run.Goals as goal

pub returns : goal.returns
returns g c = let s = g.S.Scheduled in run_one s.carriers
