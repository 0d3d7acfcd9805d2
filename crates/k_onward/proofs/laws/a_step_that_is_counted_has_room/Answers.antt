use Rattle.k_sections.proofs.Tables.{thread_tables}
use Rattle.k_onward.proofs.Goes.{counted_room}
use Rattle.k_onward.proofs.laws.a_step_that_is_counted_has_room.Goals as goal

pub returns : goal.returns
returns c =
    let made = c.left_is_the_most_that_a_create_makes.ensures.in_time in
    let tables = thread_tables c.a_create_takes_locks_in_rising_rank.ensures c.a_destroy_takes_locks_in_rising_rank.ensures
    made c.left_is_the_most_that_a_destroy_makes.ensures.in_time in
    λ script w v k s ws. counted_room tables script w s ws v k
