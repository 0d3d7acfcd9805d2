use Rattle.k_model.proofs.Spent.{acted_effort}
use Rattle.k_model.proofs.laws.an_event_takes_effort.Goals as goal

pub returns : goal.returns
returns c = λ limit k e below may s. acted_effort limit k e.who e.serial e.act below may s
