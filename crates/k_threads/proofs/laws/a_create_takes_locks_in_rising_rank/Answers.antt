use Rattle.k_threads.proofs.CreateRuns.{rises}
use Rattle.k_threads.proofs.laws.a_create_takes_locks_in_rising_rank.Goals as goal

pub returns : goal.returns
returns c = rises
