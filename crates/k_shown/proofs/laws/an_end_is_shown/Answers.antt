use Rattle.k_shown.proofs.TableRows.{end_row}
use Rattle.k_shown.proofs.laws.an_end_is_shown.Goals as goal

pub returns : goal.returns
returns c = end_row
