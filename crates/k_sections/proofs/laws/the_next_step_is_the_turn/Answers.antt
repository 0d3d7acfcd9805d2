use Rattle.k_sections.proofs.Tables.{thread_tables}
use Rattle.k_sections.proofs.Turned.{step_turns, turn_steps}
use Rattle.k_sections.proofs.laws.the_next_step_is_the_turn.Goals as goal

pub returns-clause-turns : goal.returns-clause-turns
returns-clause-turns c = λ g calls b i good. step_turns g b good.locks i calls

pub returns-clause-steps : goal.returns-clause-steps
returns-clause-steps c =
    let made = c.left_is_the_most_that_a_create_makes.ensures.in_time in
    let tables = thread_tables c.a_create_takes_locks_in_rising_rank.ensures c.a_destroy_takes_locks_in_rising_rank.ensures
    made c.left_is_the_most_that_a_destroy_makes.ensures.in_time in
    λ g calls b b' i good t. turn_steps tables g calls b good.locks i b' t
