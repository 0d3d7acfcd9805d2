use Rattle.k_whole.proofs.Conditions.{queue_short}
use Rattle.k_whole.proofs.laws.a_queue_has_room.Goals as goal

pub returns : goal.returns
returns c = λ script b w es k t limits h inside. queue_short script limits b es k h.holds t inside
