use Rattle.k_schedule.proofs.Passed.{burst_ahead, due_later, next_ahead, step_ahead, turns_ahead}
use Rattle.k_schedule.proofs.laws.no_event_is_passed.Goals as goal

pub returns-clause-before_a_step : goal.returns-clause-before_a_step
returns-clause-before_a_step g c = λ d m counts. due_later g.S.Scheduled.carriers counts d m

pub returns-clause-step : goal.returns-clause-step
returns-clause-step g c = λ d m counts. step_ahead g.S.Scheduled.carriers counts d m

pub returns-clause-turns : goal.returns-clause-turns
returns-clause-turns g c = λ script w counts. turns_ahead g.S.Scheduled.carriers counts script w

pub returns-clause-burst : goal.returns-clause-burst
returns-clause-burst g c = λ d m b counts. burst_ahead g.S.Scheduled.carriers counts d m b

pub returns-clause-next : goal.returns-clause-next
returns-clause-next g c = λ d e b o counts. next_ahead g.S.Scheduled.carriers counts d e b o
