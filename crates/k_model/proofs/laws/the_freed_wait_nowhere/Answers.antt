use Rattle.std.proofs.Common.{ap, false}
use Rattle.k_ids.specs.declared.threads.Status.TheVariants as status
use Rattle.k_model.specs.Step.{acted}
use Rattle.k_model.specs.State.{Place}
use Rattle.k_model.proofs.Maps.{upd_same}
use Rattle.k_model.proofs.Sound.{freed_nowhere}
use Rattle.k_model.proofs.Answered.{freed_told}
use Rattle.k_model.proofs.laws.the_freed_wait_nowhere.Goals as goal

pub returns-clause-runs : goal.returns-clause-runs
unfolding acted
returns-clause-runs c = λ k who serial may. ap (λ (q : Place). q.status) (upd_same k.place who.number (record (k.place who.number) { status = status.Run; joined = false }))

pub returns-clause-told : goal.returns-clause-told
returns-clause-told c = freed_told

pub returns-clause-nowhere : goal.returns-clause-nowhere
returns-clause-nowhere c = freed_nowhere
