use Rattle.std.proofs.Common.{refl}
use Rattle.k_script.proofs.Turns.{at_start}
use Rattle.k_script.proofs.cursor.Cursor.start.Goals as goal

pub returns-clause-left : goal.returns-clause-left
returns-clause-left c = λ ops nested. (at_start ops _ refl nested).0

pub returns-clause-placed : goal.returns-clause-placed
returns-clause-placed c = λ ops nested. (at_start ops _ refl nested).1
