use Rattle.k_core.proofs.Steps.{next_count}
use Rattle.k_core.proofs.world.World.step.Goals as goal

pub make_step-requires : goal.make_step-requires
make_step-requires c = c.the_kernel_can_step.ensures c.args.script.now c.args.self.now c.args.c c.holds.ensures
    c.requires.few c.requires.running c.requires.room c.requires.carrier

pub returns-clause-running : goal.returns-clause-running
returns-clause-running c = c.each_step_goes_on.ensures.step c.args.script.now c.args.self.now c.make_step.new.self
    c.args.c c.holds.ensures c.requires.few c.requires.running c.requires.carrier c.make_step.ensures.world
    c.make_step.ensures.placed c.make_step.ensures.capacity

pub returns-clause-carriers : goal.returns-clause-carriers
returns-clause-carriers c = next_count c.args.script.now c.args.self.now c.make_step.new.self c.args.c
    c.make_step.ensures.world
