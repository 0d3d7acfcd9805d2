use Rattle.k_world.proofs.Starts.{ready_at_once, waits_for_start}
use Rattle.k_world.proofs.laws.a_thread_waits_for_its_start.Goals as goal

pub returns-clause-waits : goal.returns-clause-waits
returns-clause-waits c = waits_for_start

pub returns-clause-ready : goal.returns-clause-ready
returns-clause-ready c = ready_at_once
