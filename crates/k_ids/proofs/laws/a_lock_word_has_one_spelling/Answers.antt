use Rattle.k_ids.proofs.LockSpelled.{lock-read, lock-bits_small, lock-whole, lock-same, lock-one}
use Rattle.k_ids.proofs.laws.a_lock_word_has_one_spelling.Goals as goal

pub returns-clause-read : goal.returns-clause-read
returns-clause-read c = lock-read

pub returns-clause-spelled : goal.returns-clause-spelled
returns-clause-spelled c = lock-bits_small

pub returns-clause-whole : goal.returns-clause-whole
returns-clause-whole c = lock-whole

pub returns-clause-same : goal.returns-clause-same
returns-clause-same c = lock-same

pub returns-clause-one : goal.returns-clause-one
returns-clause-one c = lock-one
