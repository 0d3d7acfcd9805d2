use Rattle.k_script.proofs.Shares.{start_counts}
use Rattle.k_script.proofs.laws.a_start_is_counted.Goals as goal

pub returns : goal.returns
returns c = start_counts
