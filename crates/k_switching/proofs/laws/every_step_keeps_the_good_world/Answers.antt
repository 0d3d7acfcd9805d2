use Rattle.k_switching.proofs.Rules.{step_good, started_good, sliced_good, parked_good}
use Rattle.k_switching.proofs.laws.every_step_keeps_the_good_world.Goals as goal

pub returns-clause-step : goal.returns-clause-step
returns-clause-step c = step_good

pub returns-clause-start : goal.returns-clause-start
returns-clause-start c = started_good

pub returns-clause-slice : goal.returns-clause-slice
returns-clause-slice c = sliced_good

pub returns-clause-park : goal.returns-clause-park
returns-clause-park c = parked_good
