use Rattle.k_alone.proofs.SendLaw.{send_law}
use Rattle.k_alone.proofs.laws.a_send_alone_makes_its_event.Goals as goal

pub returns : goal.returns
returns c = send_law
