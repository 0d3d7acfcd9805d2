use Rattle.k_world.proofs.Steps.{lawful_once}
use Rattle.k_counted.proofs.laws.the_steps_of_each_call_are_in_order.Goals as goal

pub returns-clause-order : goal.returns-clause-order
returns-clause-order c = λ script w h. h.counted.lawful

pub returns-clause-once : goal.returns-clause-once
returns-clause-once c = λ script w h. lawful_once w.steps h.counted.lawful

pub returns-clause-call : goal.returns-clause-call
returns-clause-call c = λ script w h n v e. (h.counted.counts n v e).call
