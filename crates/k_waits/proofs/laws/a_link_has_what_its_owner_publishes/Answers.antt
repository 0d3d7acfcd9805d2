use Rattle.k_waits.proofs.Published.{published}
use Rattle.k_waits.proofs.laws.a_link_has_what_its_owner_publishes.Goals as goal

pub returns : goal.returns
returns c = published
