use Rattle.k_world.proofs.Steps.{lawful_once}
use Rattle.k_marks.proofs.laws.marks_stay_in_order.Goals as goal

pub returns-clause-order : goal.returns-clause-order
returns-clause-order c = λ table s h. h.lawful

pub returns-clause-once : goal.returns-clause-once
returns-clause-once c = λ table s h. lawful_once s.marks h.lawful

pub returns-clause-call : goal.returns-clause-call
returns-clause-call c = λ table s h n v e. (h.counts n v e).call
