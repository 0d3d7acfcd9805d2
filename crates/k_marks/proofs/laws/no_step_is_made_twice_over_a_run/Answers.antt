use Rattle.k_world.specs.Runs.{run_of}
use Rattle.k_world.proofs.Steps.{lawful_once}
use Rattle.k_marks.proofs.Runs.{run_lawful}
use Rattle.k_marks.proofs.laws.no_step_is_made_twice_over_a_run.Goals as goal

pub returns-clause-order : goal.returns-clause-order
returns-clause-order c = λ script carriers turns roomy k. run_lawful script carriers roomy turns k

pub returns-clause-once : goal.returns-clause-once
returns-clause-once c =
    λ script carriers turns roomy k. lawful_once (run_of script carriers turns).steps (run_lawful script carriers roomy turns k)
