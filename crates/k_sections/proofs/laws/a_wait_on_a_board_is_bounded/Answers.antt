use Rattle.k_sections.proofs.Bounded.{got_bounded}
use Rattle.k_sections.proofs.Tables.{thread_tables}
use Rattle.k_sections.proofs.laws.a_wait_on_a_board_is_bounded.Goals as goal

pub returns : goal.returns
returns g c =
    let b = g.K.Kept in
    let made = c.left_is_the_most_that_a_create_makes.ensures.in_time in
    let tables = thread_tables c.a_create_takes_locks_in_rising_rank.ensures c.a_destroy_takes_locks_in_rising_rank.ensures
    made c.left_is_the_most_that_a_destroy_makes.ensures.in_time in
    got_bounded tables b.programs b.calls b.IsInvariant b.kept
