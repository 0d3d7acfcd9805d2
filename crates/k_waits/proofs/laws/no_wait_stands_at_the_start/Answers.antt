use Rattle.k_waits.proofs.Outside.{booted_waits}
use Rattle.k_waits.proofs.laws.no_wait_stands_at_the_start.Goals as goal

pub returns : goal.returns
returns c = booted_waits
