use Rattle.k_tokens.proofs.Claimed.{ready_lists}
use Rattle.k_tokens.proofs.laws.ready_lists_are_counted.Goals as goal

pub returns : goal.returns
returns c = ready_lists
