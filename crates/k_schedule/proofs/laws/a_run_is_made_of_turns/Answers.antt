use Rattle.k_schedule.proofs.Reached.{run_reached}
use Rattle.k_schedule.proofs.laws.a_run_is_made_of_turns.Goals as goal

pub returns : goal.returns
returns g c = let s = g.S.Scheduled in run_reached s.carriers
