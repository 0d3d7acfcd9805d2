use Rattle.k_places.specs.Answers.{goods_found}
use Rattle.k_locks.specs.Asks.{step_for}
use Rattle.k_places.proofs.Words.{step_finds}
use Rattle.k_places.proofs.laws.a_step_finds_what_the_board_has.Goals as goal

pub returns : goal.returns
returns c = λ m b a h seen owners fit. step_finds m b a h (goods_found m (step_for a h)) seen owners fit
