use Rattle.k_points.proofs.Starts.{first_shows}
use Rattle.k_points.proofs.laws.the_first_board_shows_the_opening_state.Goals as goal

pub returns : goal.returns
returns c = λ g b threads h. first_shows g b threads h.booted h.free h.agree h.count h.few h.who h.unused
