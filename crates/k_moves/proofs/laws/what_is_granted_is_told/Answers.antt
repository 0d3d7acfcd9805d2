use Rattle.k_moves.proofs.Granted.{granted_told, waits_so}
use Rattle.k_moves.proofs.laws.what_is_granted_is_told.Goals as goal

pub returns-clause-waits : goal.returns-clause-waits
returns-clause-waits c = waits_so

pub returns-clause-told : goal.returns-clause-told
returns-clause-told c = granted_told
