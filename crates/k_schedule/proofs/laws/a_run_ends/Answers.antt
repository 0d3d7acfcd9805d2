use Rattle.k_schedule.proofs.Runs.{is_tail_ends, run_ends, run_finishes}
use Rattle.k_schedule.proofs.laws.a_run_ends.Goals as goal

pub returns-clause-ends : goal.returns-clause-ends
returns-clause-ends g c = let s = g.S.Scheduled in run_ends s.carriers s.facts s.laws

pub returns-clause-finished : goal.returns-clause-finished
returns-clause-finished g c = let s = g.S.Scheduled in run_finishes s.carriers s.facts s.laws

pub returns-clause-tail : goal.returns-clause-tail
returns-clause-tail g c = let s = g.S.Scheduled in is_tail_ends s.carriers s.facts s.laws
