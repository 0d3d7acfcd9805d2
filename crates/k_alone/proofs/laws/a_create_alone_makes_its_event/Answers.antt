use Rattle.k_alone.proofs.CreateLaw.{create_law}
use Rattle.k_alone.proofs.laws.a_create_alone_makes_its_event.Goals as goal

pub returns : goal.returns
returns c = create_law
