use Rattle.k_plays.specs.Scripts.{ranged_programs}
use Rattle.k_sections.proofs.Bounded.{got_by_hand, never_taken}
use Rattle.k_sections.proofs.Tables.{thread_tables}
use Rattle.k_invariant.specs.Invariant.{Holds}
use Rattle.k_invariant.proofs.Waits.{kept}
use Rattle.k_invariant.proofs.laws.each_wait_is_bounded.Goals as goal

pub returns-clause-got : goal.returns-clause-got
returns-clause-got c =
    let made = c.left_is_the_most_that_a_create_makes.ensures.in_time in
    let tables = thread_tables c.a_create_takes_locks_in_rising_rank.ensures c.a_destroy_takes_locks_in_rising_rank.ensures made
    c.left_is_the_most_that_a_destroy_makes.ensures.in_time in
    λ script calls b own events limits h. got_by_hand tables (ranged_programs script) calls (Holds script)
    (kept script limits) b own events h

pub returns-clause-never_taken : goal.returns-clause-never_taken
returns-clause-never_taken c =
    let made = c.left_is_the_most_that_a_create_makes.ensures.in_time in
    let tables = thread_tables c.a_create_takes_locks_in_rising_rank.ensures c.a_destroy_takes_locks_in_rising_rank.ensures made
    c.left_is_the_most_that_a_destroy_makes.ensures.in_time in
    λ script calls b own events limits h. never_taken tables (ranged_programs script) calls (Holds script)
    (kept script limits) b own events h
