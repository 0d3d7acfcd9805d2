use Rattle.k_bound.proofs.Logs.{capped_within, one_more_capped, sum_capped}
use Rattle.k_bound.proofs.laws.a_count_that_stands_still_is_no_more.Goals as goal

pub returns-clause-counted : goal.returns-clause-counted
returns-clause-counted c = one_more_capped

pub returns-clause-added : goal.returns-clause-added
returns-clause-added c = sum_capped

pub returns-clause-no_more : goal.returns-clause-no_more
returns-clause-no_more c = capped_within
