use Rattle.k_sections.proofs.Tables.{thread_tables}
use Rattle.k_courses.proofs.Steps.{step_keeps}
use Rattle.k_courses.proofs.laws.a_step_keeps_the_waits.Goals as goal

pub returns : goal.returns
returns c =
    let made = c.left_is_the_most_that_a_create_makes.ensures.in_time in
    let tables = thread_tables c.a_create_takes_locks_in_rising_rank.ensures c.a_destroy_takes_locks_in_rising_rank.ensures
    made c.left_is_the_most_that_a_destroy_makes.ensures.in_time in
    λ script w s ws. step_keeps tables script w s ws
