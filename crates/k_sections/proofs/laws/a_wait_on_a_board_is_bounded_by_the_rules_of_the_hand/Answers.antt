use Rattle.k_sections.proofs.Bounded.{carrier_sound, got_by_hand, never_taken}
use Rattle.k_sections.proofs.Tables.{thread_tables}
use Rattle.k_sections.proofs.laws.a_wait_on_a_board_is_bounded_by_the_rules_of_the_hand.Goals as goal

pub returns-clause-got : goal.returns-clause-got
returns-clause-got g c =
    let b = g.K.Kept in
    let made = c.left_is_the_most_that_a_create_makes.ensures.in_time in
    let tables = thread_tables c.a_create_takes_locks_in_rising_rank.ensures c.a_destroy_takes_locks_in_rising_rank.ensures
    made c.left_is_the_most_that_a_destroy_makes.ensures.in_time in
    got_by_hand tables b.programs b.calls b.IsInvariant b.kept

pub returns-clause-sound : goal.returns-clause-sound
returns-clause-sound g c =
    let b = g.K.Kept in
    let made = c.left_is_the_most_that_a_create_makes.ensures.in_time in
    let tables = thread_tables c.a_create_takes_locks_in_rising_rank.ensures c.a_destroy_takes_locks_in_rising_rank.ensures
    made c.left_is_the_most_that_a_destroy_makes.ensures.in_time in
    carrier_sound tables b.programs b.calls b.IsInvariant b.kept

pub returns-clause-never_taken : goal.returns-clause-never_taken
returns-clause-never_taken g c =
    let b = g.K.Kept in
    let made = c.left_is_the_most_that_a_create_makes.ensures.in_time in
    let tables = thread_tables c.a_create_takes_locks_in_rising_rank.ensures c.a_destroy_takes_locks_in_rising_rank.ensures
    made c.left_is_the_most_that_a_destroy_makes.ensures.in_time in
    never_taken tables b.programs b.calls b.IsInvariant b.kept
