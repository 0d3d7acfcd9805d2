use Rattle.std.proofs.Common.{refl}
use Rattle.k_world.specs.Marks.{step_mark}
use Rattle.k_world.proofs.Steps.{lawful_next, lawful_once, lawful_step}
use Rattle.k_world.proofs.laws.marks_are_in_order.Goals as goal

pub returns-clause-none : goal.returns-clause-none
returns-clause-none c = λ o serial. refl

pub returns-clause-next : goal.returns-clause-next
returns-clause-next c = λ marks v runner h e. lawful_next marks (step_mark v runner) h e

pub returns-clause-once : goal.returns-clause-once
returns-clause-once c = lawful_once

pub returns-clause-moved : goal.returns-clause-moved
returns-clause-moved c = lawful_step
