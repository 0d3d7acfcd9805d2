use Rattle.k_model.proofs.Answered.{unanswered_zero}
use Rattle.k_model.proofs.laws.serials_begin_at_one.Goals as goal

pub returns : goal.returns
returns c = unanswered_zero
