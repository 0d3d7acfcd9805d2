use Rattle.k_schedule.proofs.Events.{at_once_made, least_made}
use Rattle.k_schedule.proofs.laws.events_come_at_their_step.Goals as goal

pub returns-clause-before_a_step : goal.returns-clause-before_a_step
returns-clause-before_a_step g c =
    let s = g.S.Scheduled in
    λ d m. at_once_made s.carriers d (s.carriers.made m.world) m.world m.ahead

pub returns-clause-after_an_idle : goal.returns-clause-after_an_idle
returns-clause-after_an_idle g c = let s = g.S.Scheduled in least_made s.carriers
