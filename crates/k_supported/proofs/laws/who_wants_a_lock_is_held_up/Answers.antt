use Rattle.k_sections.proofs.Tables.{thread_tables}
use Rattle.k_supported.proofs.Owners.{lock_held_up}
use Rattle.k_supported.proofs.laws.who_wants_a_lock_is_held_up.Goals as goal

pub returns : goal.returns
returns c =
    let made = c.left_is_the_most_that_a_create_makes.ensures.in_time in
    let tables = thread_tables c.a_create_takes_locks_in_rising_rank.ensures c.a_destroy_takes_locks_in_rising_rank.ensures made
    c.left_is_the_most_that_a_destroy_makes.ensures.in_time in
    λ g b w n i owner l pair asked wants owns. lock_held_up g b w pair tables n i asked l owner wants owns
