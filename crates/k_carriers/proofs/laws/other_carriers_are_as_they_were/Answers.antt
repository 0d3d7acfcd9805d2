use Rattle.k_carriers.proofs.Carriers.{park_other, slice_other, start_other, step_other}
use Rattle.k_carriers.proofs.laws.other_carriers_are_as_they_were.Goals as goal

pub returns-clause-step : goal.returns-clause-step
returns-clause-step c = step_other

pub returns-clause-start : goal.returns-clause-start
returns-clause-start c = start_other

pub returns-clause-slice : goal.returns-clause-slice
returns-clause-slice c = slice_other

pub returns-clause-park : goal.returns-clause-park
returns-clause-park c = park_other
