use Rattle.k_conditions.proofs.CanTells.{can_be_told}
use Rattle.k_conditions.proofs.laws.a_carrier_can_be_told.Goals as goal

pub returns : goal.returns
returns c = λ script w b view state n limits h finished inside. can_be_told script limits w b view state h
    finished n inside
