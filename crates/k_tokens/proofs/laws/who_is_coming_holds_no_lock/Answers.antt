use Rattle.k_tokens.proofs.Claimed.{no_lock}
use Rattle.k_tokens.proofs.laws.who_is_coming_holds_no_lock.Goals as goal

pub returns : goal.returns
returns c = no_lock
