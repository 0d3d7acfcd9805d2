use Rattle.k_alone.proofs.ReceiveLaw.{receive_law}
use Rattle.k_alone.proofs.laws.a_receive_alone_makes_its_event.Goals as goal

pub returns : goal.returns
returns c = receive_law
