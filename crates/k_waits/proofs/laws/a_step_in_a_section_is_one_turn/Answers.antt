use Rattle.k_sections.proofs.Tables.{thread_tables}
use Rattle.k_waits.proofs.Turns.{comes_once, steps_to}
use Rattle.k_waits.proofs.laws.a_step_in_a_section_is_one_turn.Goals as goal

pub returns : goal.returns
returns c =
    let made = c.left_is_the_most_that_a_create_makes.ensures.in_time in
    let tables = thread_tables c.a_create_takes_locks_in_rising_rank.ensures c.a_destroy_takes_locks_in_rising_rank.ensures
    made c.left_is_the_most_that_a_destroy_makes.ensures.in_time in
    λ script m b carrier h limits shows was ready inside holds. steps_to tables script limits _ b h.context _ holds
    (comes_once script m b carrier h shows was ready inside)
