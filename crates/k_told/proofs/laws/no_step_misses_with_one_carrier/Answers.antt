use Rattle.k_told.proofs.Missed.{never_missed, never_removed}
use Rattle.k_told.proofs.laws.no_step_misses_with_one_carrier.Goals as goal

pub returns-clause-told : goal.returns-clause-told
returns-clause-told c = λ script w k limits h low one i d. never_missed script limits w h k low one i d

pub returns-clause-removed : goal.returns-clause-removed
returns-clause-removed c = λ script w k limits h low one i d. never_removed script limits w h k low one i d
