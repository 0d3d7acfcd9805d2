use Rattle.k_plays.proofs.Writes.{step_keeps, writes_keep}
use Rattle.k_plays.proofs.laws.every_step_keeps_the_ledgers.Goals as goal

pub returns-clause-writes : goal.returns-clause-writes
returns-clause-writes c = writes_keep

pub returns-clause-point : goal.returns-clause-point
returns-clause-point c = step_keeps
