use Rattle.k_ipc.proofs.SendRuns.{rising}
use Rattle.k_ipc.proofs.laws.a_send_takes_locks_in_rising_rank.Goals as goal

pub returns : goal.returns
returns c = rising
