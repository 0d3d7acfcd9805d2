use Rattle.std.proofs.Common.{refl}
use Rattle.k_history.proofs.Spelling.{line_one, text_one}
use Rattle.k_history.proofs.laws.a_line_spells_one_entry.Goals as goal

pub returns-clause-spelled : goal.returns-clause-spelled
returns-clause-spelled c = λ e f. record { text = refl; fits = f }

pub returns-clause-one : goal.returns-clause-one
returns-clause-one c = line_one

pub returns-clause-apart : goal.returns-clause-apart
returns-clause-apart c = text_one
