use Rattle.k_legal.proofs.Starts.{first_followed}
use Rattle.k_legal.proofs.laws.the_first_board_is_followed.Goals as goal

pub returns : goal.returns
returns c = λ g b threads h. first_followed g b threads h.booted h.free h.empty h.agree h.count h.few h.who h.unused
