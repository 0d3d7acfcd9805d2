use Rattle.k_shown.proofs.ReceiveRows.{pick_takes_row, pick_waits_row}
use Rattle.k_shown.proofs.laws.a_pick_is_shown.Goals as goal

pub returns-clause-takes : goal.returns-clause-takes
returns-clause-takes c = pick_takes_row

pub returns-clause-waits : goal.returns-clause-waits
returns-clause-waits c = pick_waits_row
