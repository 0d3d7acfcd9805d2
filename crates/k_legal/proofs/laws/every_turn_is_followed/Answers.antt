use Rattle.k_legal.proofs.Sums.{turn_followed}
use Rattle.k_legal.proofs.laws.every_turn_is_followed.Goals as goal

pub returns : goal.returns
returns c = λ g b b' k i good within tell messages few is t. turn_followed g b k good within messages few is i tell b' t
