use Rattle.k_moves.proofs.Sums.{give_sum, look_sum, park_sum, replaced_sum, slice_sum}
use Rattle.k_moves.proofs.Sums.{start_sum, switch_sum, take_sum, thread_sum}
use Rattle.k_moves.proofs.laws.a_move_is_a_step.Goals as goal

pub returns-clause-look : goal.returns-clause-look
returns-clause-look c = look_sum

pub returns-clause-replaced : goal.returns-clause-replaced
returns-clause-replaced c = replaced_sum

pub returns-clause-take : goal.returns-clause-take
returns-clause-take c = take_sum

pub returns-clause-give : goal.returns-clause-give
returns-clause-give c = give_sum

pub returns-clause-switch : goal.returns-clause-switch
returns-clause-switch c = switch_sum

pub returns-clause-thread : goal.returns-clause-thread
returns-clause-thread c = thread_sum

pub returns-clause-start : goal.returns-clause-start
returns-clause-start c = start_sum

pub returns-clause-slice : goal.returns-clause-slice
returns-clause-slice c = slice_sum

pub returns-clause-park : goal.returns-clause-park
returns-clause-park c = park_sum
