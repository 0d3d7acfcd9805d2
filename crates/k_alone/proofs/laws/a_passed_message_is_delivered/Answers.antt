use Rattle.k_alone.proofs.SendLaw.{delivers_law}
use Rattle.k_alone.proofs.laws.a_passed_message_is_delivered.Goals as goal

pub returns : goal.returns
returns c = delivers_law
