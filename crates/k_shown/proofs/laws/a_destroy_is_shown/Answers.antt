use Rattle.k_shown.proofs.TableRows.{absent_row, killed_row, own_row}
use Rattle.k_shown.proofs.laws.a_destroy_is_shown.Goals as goal

pub returns-clause-own : goal.returns-clause-own
returns-clause-own c = own_row

pub returns-clause-absent : goal.returns-clause-absent
returns-clause-absent c = absent_row

pub returns-clause-killed : goal.returns-clause-killed
returns-clause-killed c = killed_row
