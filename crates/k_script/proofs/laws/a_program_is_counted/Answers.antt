use Rattle.k_script.proofs.Weighed.{operation_counts, repeat_counts}
use Rattle.k_script.proofs.laws.a_program_is_counted.Goals as goal

pub returns-clause-operation : goal.returns-clause-operation
returns-clause-operation c = operation_counts

pub returns-clause-repeat : goal.returns-clause-repeat
returns-clause-repeat c = repeat_counts
