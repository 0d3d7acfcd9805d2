use Rattle.k_tokens.proofs.Claimed.{idle_rests}
use Rattle.k_tokens.proofs.laws.idle_means_rest.Goals as goal

pub returns : goal.returns
returns c = idle_rests
