use Rattle.k_invariant.proofs.Keeps.{goes_on}
use Rattle.k_invariant.proofs.laws.every_turn_keeps_the_board.Goals as goal

pub returns : goal.returns
returns c = λ script b b' es k i limits h t. goes_on script limits b es k h i b' t
