use Rattle.k_within.proofs.Made.{run_made}
use Rattle.k_within.proofs.laws.a_carrier_runs_made_threads.Goals as goal

pub returns : goal.returns
returns c = λ script w b view state n x k inside asks. run_made script w b view state k n inside x asks
