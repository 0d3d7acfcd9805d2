use Rattle.k_tokens.proofs.Claimed.{one_holder}
use Rattle.k_tokens.proofs.laws.who_is_on_has_one_holder.Goals as goal

pub returns : goal.returns
returns c = one_holder
