use Rattle.k_world.specs.Boot.{booted}
use Rattle.k_world.specs.Runs.{run_of}
use Rattle.k_world.proofs.Steps.{lawful_once}
use Rattle.k_counted.proofs.Runs.{turns_count}
use Rattle.k_counted.proofs.Tallied.{booted_marks}
use Rattle.k_counted.proofs.laws.no_run_makes_a_step_twice.Goals as goal

pub returns-clause-holds : goal.returns-clause-holds
returns-clause-holds c =
    λ script carriers turns limits few room can. turns_count script limits room turns (booted script carriers) can
    (c.the_first_world_holds.ensures script carriers limits few) (booted_marks script carriers limits few)

pub returns-clause-once : goal.returns-clause-once
returns-clause-once c =
    λ script carriers turns limits few room can. lawful_once (run_of script carriers turns).steps
    (turns_count script limits room turns (booted script carriers) can
    (c.the_first_world_holds.ensures script carriers limits few) (booted_marks script carriers limits few)).counted.lawful
