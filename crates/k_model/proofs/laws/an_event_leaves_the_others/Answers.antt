use Rattle.k_model.proofs.Left.{acted_leaves, acted_renews}
use Rattle.k_model.proofs.laws.an_event_leaves_the_others.Goals as goal

pub returns-clause-left : goal.returns-clause-left
returns-clause-left c = λ k e number may s ne apart. acted_leaves k e.who e.serial e.act number may s ne apart

pub returns-clause-renewed : goal.returns-clause-renewed
returns-clause-renewed c = λ k e number may found. acted_renews k e.who e.serial e.act number may found
