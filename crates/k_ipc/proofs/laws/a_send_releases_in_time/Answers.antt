use Rattle.k_ipc.proofs.SendRuns.{in_time}
use Rattle.k_ipc.proofs.laws.a_send_releases_in_time.Goals as goal

pub returns : goal.returns
returns c = in_time
