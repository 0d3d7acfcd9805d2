use Rattle.k_shown.proofs.ReceiveRows.{nobody_row, own_row, takes_row, waits_row}
use Rattle.k_shown.proofs.laws.a_receive_is_shown.Goals as goal

pub returns-clause-own : goal.returns-clause-own
returns-clause-own c = own_row

pub returns-clause-nobody : goal.returns-clause-nobody
returns-clause-nobody c = nobody_row

pub returns-clause-waits : goal.returns-clause-waits
returns-clause-waits c = waits_row

pub returns-clause-takes : goal.returns-clause-takes
returns-clause-takes c = takes_row
