use Rattle.k_history.proofs.Unique.{verdict_one}
use Rattle.k_history.proofs.laws.a_history_has_one_verdict.Goals as goal

pub returns : goal.returns
returns c = verdict_one
