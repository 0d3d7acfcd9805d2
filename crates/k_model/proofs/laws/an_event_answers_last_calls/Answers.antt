use Rattle.k_model.proofs.Answered.{acted-adds}
use Rattle.k_model.proofs.laws.an_event_answers_last_calls.Goals as goal

pub returns : goal.returns
returns c = λ k e may s a. acted-adds k e.who e.serial e.act may s a
