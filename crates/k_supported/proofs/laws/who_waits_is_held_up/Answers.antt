use Rattle.k_sections.proofs.Tables.{thread_tables}
use Rattle.k_supported.proofs.Made.{begun_removes, step_made}
use Rattle.k_supported.proofs.Waits.{step_held_up}
use Rattle.k_supported.proofs.laws.who_waits_is_held_up.Goals as goal

pub returns-clause-waits : goal.returns-clause-waits
returns-clause-waits c =
    let made = c.left_is_the_most_that_a_create_makes.ensures.in_time in
    let tables = thread_tables c.a_create_takes_locks_in_rising_rank.ensures c.a_destroy_takes_locks_in_rising_rank.ensures made
    c.left_is_the_most_that_a_destroy_makes.ensures.in_time in
    λ script g m b w k n size t goal r shows pair victims alone asked found there same spelled words again.
    step_held_up tables script g m b w k n size t goal r shows pair victims alone asked found there same spelled words again

pub returns-clause-made : goal.returns-clause-made
returns-clause-made c =
    λ script m b n size t goal l x shows found there sound can. step_made script m b shows n t found there sound can size goal l x

pub returns-clause-begun : goal.returns-clause-begun
returns-clause-begun c = λ script t last id at. begun_removes script t last at id
