use Rattle.k_waits.proofs.Owed.{counts_owed}
use Rattle.k_waits.proofs.laws.each_step_that_is_counted_is_owed.Goals as goal

pub returns : goal.returns
returns c = counts_owed
