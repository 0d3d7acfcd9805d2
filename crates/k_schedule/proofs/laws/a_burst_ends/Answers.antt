use Rattle.k_schedule.proofs.Runs.{is_burst_ends, is_burst_left, is_burst_one}
use Rattle.k_schedule.proofs.laws.a_burst_ends.Goals as goal

pub returns-clause-ends : goal.returns-clause-ends
returns-clause-ends g c = let s = g.S.Scheduled in is_burst_ends s.carriers s.facts s.laws

pub returns-clause-leaves : goal.returns-clause-leaves
returns-clause-leaves g c = let s = g.S.Scheduled in is_burst_left s.carriers s.facts s.laws

pub returns-clause-one : goal.returns-clause-one
returns-clause-one g c = let s = g.S.Scheduled in is_burst_one s.carriers
