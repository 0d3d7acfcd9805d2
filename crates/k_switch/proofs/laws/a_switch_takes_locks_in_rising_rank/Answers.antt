use Rattle.k_switch.proofs.SwitchRuns.{rises}
use Rattle.k_switch.proofs.laws.a_switch_takes_locks_in_rising_rank.Goals as goal

pub returns : goal.returns
returns c = rises
