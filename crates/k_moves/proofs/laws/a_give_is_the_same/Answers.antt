use Rattle.k_moves.proofs.Gives.{give_is_same}
use Rattle.k_moves.proofs.laws.a_give_is_the_same.Goals as goal

pub returns : goal.returns
returns c = give_is_same
