use Rattle.k_lines.proofs.Items.{items-read, items-spelled}
use Rattle.k_lines.proofs.laws.items_are_spelled.Goals as goal

pub returns-clause-read : goal.returns-clause-read
returns-clause-read c = λ ws is h p. (items-read ws is h p).0

pub returns-clause-some : goal.returns-clause-some
returns-clause-some c = λ ws is h p. (items-read ws is h p).1

pub returns-clause-spelled : goal.returns-clause-spelled
returns-clause-spelled c = items-spelled
