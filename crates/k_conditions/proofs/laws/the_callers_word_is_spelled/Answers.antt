use Rattle.k_carrier.specs.Asked.{asked}
use Rattle.k_world.specs.Steps.{running}
use Rattle.k_world.specs.Worlds.{carrier_at}
use Rattle.k_conditions.proofs.Performs.{caller_small, state_spelled}
use Rattle.k_conditions.proofs.laws.the_callers_word_is_spelled.Goals as goal

pub returns : goal.returns
returns c = λ script w b view state n limits h inside. (
  caller_small script limits w b view state h n inside,
  state_spelled script limits w b view state h (running (asked script (carrier_at w n)).hand),
)
