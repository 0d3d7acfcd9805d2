use Rattle.k_board.proofs.Stays.{says_stays}
use Rattle.k_board.proofs.laws.a_fact_lasts_over_the_steps_of_others.Goals as goal

pub returns : goal.returns
returns c = λ g b b' i j ne there ch lk ct x f h. says_stays g b b' i j ne there ch lk ct x f h
