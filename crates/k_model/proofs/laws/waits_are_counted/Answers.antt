use Rattle.k_model.specs.Effort.{unlimited}
use Rattle.k_model.proofs.Spent.{call_waits, gone_effort, pick_effort}
use Rattle.k_model.proofs.laws.waits_are_counted.Goals as goal

pub returns-clause-call : goal.returns-clause-call
returns-clause-call c = λ k who serial p s. call_waits k who serial p s

pub returns-clause-gone : goal.returns-clause-gone
returns-clause-gone c = λ k who serial may s. gone_effort unlimited k who serial may s

pub returns-clause-pick : goal.returns-clause-pick
returns-clause-pick c = λ k who serial may s. pick_effort unlimited k who serial may s
