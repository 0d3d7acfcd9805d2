use Rattle.k_spelled.proofs.Moves.{step_spelled}
use Rattle.k_spelled.proofs.Worlds.{carrier_spelled, context_spelled}
use Rattle.k_spelled.proofs.laws.a_step_is_spelled.Goals as goal

pub returns-clause-board : goal.returns-clause-board
returns-clause-board c = λ script b es k i limits h words. step_spelled script limits b es k h words i

pub returns-clause-context : goal.returns-clause-context
returns-clause-context c =
    λ script w b es k i v limits sh h words found made. context_spelled script limits w b es k sh h words i v found made

pub returns-clause-carrier : goal.returns-clause-carrier
returns-clause-carrier c =
    λ script w b es k n limits sh h words made. carrier_spelled script limits w b es k sh h words n made
