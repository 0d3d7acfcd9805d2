use Rattle.k_board.proofs.Booting.{boots}
use Rattle.k_board.proofs.laws.the_facts_hold_at_the_start.Goals as goal

pub returns : goal.returns
returns c = boots
