use Rattle.k_whole.proofs.Wholes.{park_stays, slice_stays, start_stays, whole_goes_on}
use Rattle.k_whole.proofs.laws.every_step_of_every_carrier_keeps_the_whole.Goals as goal

pub returns-clause-step : goal.returns-clause-step
returns-clause-step c = λ script b b' w es k n limits h low s. whole_goes_on script limits b w es k h n low b' s

pub returns-clause-start : goal.returns-clause-start
returns-clause-start c = λ script b w es k n t limits h low u. start_stays script limits b w es k h n t low u

pub returns-clause-slice : goal.returns-clause-slice
returns-clause-slice c = λ script b w es k n limits h. slice_stays script limits b w es k h n

pub returns-clause-park : goal.returns-clause-park
returns-clause-park c = λ script b w es k n limits h. park_stays script limits b w es k h n
