use Rattle.k_shown.proofs.TableRows.{full_row, made_row}
use Rattle.k_shown.proofs.laws.a_create_is_shown.Goals as goal

pub returns-clause-made : goal.returns-clause-made
returns-clause-made c = made_row

pub returns-clause-full : goal.returns-clause-full
returns-clause-full c = full_row
