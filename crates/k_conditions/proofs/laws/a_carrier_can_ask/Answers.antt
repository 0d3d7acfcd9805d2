use Rattle.k_conditions.proofs.CanAsks.{can_be_asked}
use Rattle.k_conditions.proofs.laws.a_carrier_can_ask.Goals as goal

pub returns : goal.returns
returns c = λ script w b view state n limits h finished inside. can_be_asked script limits w b view state h
    finished n inside
