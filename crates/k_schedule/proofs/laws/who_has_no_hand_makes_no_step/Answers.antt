use Rattle.k_schedule.proofs.Runs.{begins, no_park}
use Rattle.k_schedule.proofs.laws.who_has_no_hand_makes_no_step.Goals as goal

pub returns-clause-stays : goal.returns-clause-stays
returns-clause-stays g c = let s = g.S.Scheduled in no_park s.carriers

pub returns-clause-nobody : goal.returns-clause-nobody
returns-clause-nobody g c = let s = g.S.Scheduled in begins s.carriers s.facts s.laws
