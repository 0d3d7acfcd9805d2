use Rattle.k_script.proofs.Written.{flat_operation, flat_repeat, flat_plain}
use Rattle.k_script.proofs.laws.a_program_is_written_out.Goals as goal

pub returns-clause-operation : goal.returns-clause-operation
returns-clause-operation c = flat_operation

pub returns-clause-repeat : goal.returns-clause-repeat
returns-clause-repeat c = flat_repeat

pub returns-clause-plain : goal.returns-clause-plain
returns-clause-plain c = flat_plain
