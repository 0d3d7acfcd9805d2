use Rattle.k_model.proofs.Answered.{acted-keeps_earlier, acted-keeps_replies}
use Rattle.k_model.proofs.laws.replies_never_change.Goals as goal

pub returns-clause-answered : goal.returns-clause-answered
returns-clause-answered c = λ k e may s a id serial r h. acted-keeps_replies k e.who e.serial e.act may s a id serial r h

pub returns-clause-earlier : goal.returns-clause-earlier
returns-clause-earlier c = λ k e may s a id serial h. acted-keeps_earlier k e.who e.serial e.act may s a id serial h
