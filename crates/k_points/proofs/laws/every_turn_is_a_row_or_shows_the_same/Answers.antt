use Rattle.k_points.proofs.Turns.{turn_moves}
use Rattle.k_points.proofs.laws.every_turn_is_a_row_or_shows_the_same.Goals as goal

pub returns : goal.returns
returns c = λ g b b' k i good count is li t. turn_moves g b k good count is i li b' t
