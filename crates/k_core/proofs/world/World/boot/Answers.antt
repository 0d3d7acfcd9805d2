use Rattle.k_core.proofs.Steps.{first_counted, first_runs}
use Rattle.k_core.proofs.world.World.boot.Goals as goal

pub returns-clause-running : goal.returns-clause-running
returns-clause-running c =
    let script = c.args.script.now in
    first_runs script c.args.carriers c.opened.result
    (λ p. c.each_step_goes_on.ensures.first script p c.args.carriers c.holds.ensures c.requires.carriers)
    c.opened.ensures.world c.opened.ensures.placed c.opened.ensures.room

pub returns-clause-carriers : goal.returns-clause-carriers
returns-clause-carriers c =
    first_counted c.args.script.now c.args.carriers c.opened.result c.opened.ensures.world
