use Rattle.k_locks.proofs.Parted.{none_before, parts}
use Rattle.k_locks.proofs.laws.a_queue_is_parted.Goals as goal

pub returns-clause-front : goal.returns-clause-front
returns-clause-front c = none_before

pub returns-clause-parts : goal.returns-clause-parts
returns-clause-parts c = parts
