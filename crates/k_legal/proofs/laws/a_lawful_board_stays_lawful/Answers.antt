use Rattle.k_legal.proofs.Runs.{lawful_keeps}
use Rattle.k_legal.proofs.laws.a_lawful_board_stays_lawful.Goals as goal

pub returns : goal.returns
returns c = λ g b b' k i names fit is q t. lawful_keeps g b k i b' names fit is q t
