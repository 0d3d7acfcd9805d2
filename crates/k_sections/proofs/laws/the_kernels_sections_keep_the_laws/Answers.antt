use Rattle.k_sections.proofs.RestLaws.{laws, others}
use Rattle.k_sections.proofs.Tables.{thread_tables}
use Rattle.k_sections.proofs.laws.the_kernels_sections_keep_the_laws.Goals as goal

pub returns-clause-laws : goal.returns-clause-laws
returns-clause-laws g c =
    let b = g.K.Kept in
    let made = c.left_is_the_most_that_a_create_makes.ensures.in_time in
    let tables = thread_tables c.a_create_takes_locks_in_rising_rank.ensures c.a_destroy_takes_locks_in_rising_rank.ensures
    made c.left_is_the_most_that_a_destroy_makes.ensures.in_time in
    laws tables b.programs b.calls b.IsInvariant b.kept

pub returns-clause-others : goal.returns-clause-others
returns-clause-others g c =
    let b = g.K.Kept in
    let made = c.left_is_the_most_that_a_create_makes.ensures.in_time in
    let tables = thread_tables c.a_create_takes_locks_in_rising_rank.ensures c.a_destroy_takes_locks_in_rising_rank.ensures
    made c.left_is_the_most_that_a_destroy_makes.ensures.in_time in
    others tables b.programs b.calls b.IsInvariant b.kept
