use Rattle.k_shown.proofs.SendRows.{absent_row, busy_row, own_row, passes_row, waits_row}
use Rattle.k_shown.proofs.laws.a_send_is_shown.Goals as goal

pub returns-clause-own : goal.returns-clause-own
returns-clause-own c = own_row

pub returns-clause-absent : goal.returns-clause-absent
returns-clause-absent c = absent_row

pub returns-clause-busy : goal.returns-clause-busy
returns-clause-busy c = busy_row

pub returns-clause-passes : goal.returns-clause-passes
returns-clause-passes c = passes_row

pub returns-clause-waits : goal.returns-clause-waits
returns-clause-waits c = waits_row
