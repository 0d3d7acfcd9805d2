use Rattle.k_ipc.proofs.ReceiveRuns.{in_time}
use Rattle.k_ipc.proofs.laws.a_receive_releases_in_time.Goals as goal

pub returns : goal.returns
returns c = in_time
