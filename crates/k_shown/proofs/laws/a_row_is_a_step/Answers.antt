use Rattle.k_shown.proofs.Alike.{gives_step}
use Rattle.k_shown.proofs.laws.a_row_is_a_step.Goals as goal

pub returns : goal.returns
returns c = gives_step
