use Rattle.k_alone.proofs.PickLaw.{pick_law}
use Rattle.k_alone.proofs.laws.a_pick_alone_makes_its_event.Goals as goal

pub returns : goal.returns
returns c = pick_law
