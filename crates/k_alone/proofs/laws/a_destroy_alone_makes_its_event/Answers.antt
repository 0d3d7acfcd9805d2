use Rattle.k_alone.proofs.DestroyLaw.{destroy_law}
use Rattle.k_alone.proofs.laws.a_destroy_alone_makes_its_event.Goals as goal

pub returns : goal.returns
returns c = destroy_law
