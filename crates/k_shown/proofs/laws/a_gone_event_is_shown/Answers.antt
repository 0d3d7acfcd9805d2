use Rattle.k_shown.proofs.ReceiveRows.{gone_row}
use Rattle.k_shown.proofs.laws.a_gone_event_is_shown.Goals as goal

pub returns : goal.returns
returns c = gone_row
