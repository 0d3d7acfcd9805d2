use Rattle.std.proofs.Common.{refl}
use Rattle.k_world.specs.Steps.{moved, parked, sliced, started}
use Rattle.k_marks.proofs.Moving.{log_is, move_keeps}
use Rattle.k_marks.proofs.laws.a_carriers_step_is_counted.Goals as goal

pub returns-clause-moved : goal.returns-clause-moved
returns-clause-moved c = λ script k table w s h same can. move_keeps script k table w s h same can

pub returns-clause-lawful : goal.returns-clause-lawful
unfolding moved
returns-clause-lawful c = λ script k table w s h same can. (move_keeps script k table w s h same can).counted.lawful

pub returns-clause-log : goal.returns-clause-log
returns-clause-log c = λ script k w s. log_is script k w s

pub returns-clause-flags : goal.returns-clause-flags
unfolding started sliced parked
returns-clause-flags c = λ k number w. (refl, refl, refl)
