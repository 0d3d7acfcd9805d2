use Rattle.k_conditions.proofs.Performs.{store_can}
use Rattle.k_conditions.proofs.laws.a_store_can_perform.Goals as goal

pub returns : goal.returns
returns c = λ script w b view state n limits h finished inside. store_can script limits w b view state h
    finished n inside
