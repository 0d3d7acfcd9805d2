use Rattle.k_ipc.proofs.ReceiveRuns.{rising}
use Rattle.k_ipc.proofs.laws.a_receive_takes_locks_in_rising_rank.Goals as goal

pub returns : goal.returns
returns c = rising
