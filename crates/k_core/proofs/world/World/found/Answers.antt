use Rattle.std.proofs.Common.{subst, sym}
use Rattle.k_script.specs.Script.{Script}
use Rattle.k_core.specs.Parts.{Parts, world_in}
use Rattle.k_core.specs.Running.{IsRunning}
use Rattle.k_core.proofs.Steps.{state_spelled}
use Rattle.k_core.proofs.world.World.found.Goals as goal

pub state-requires-clause-spelled : goal.state-requires-clause-spelled
state-requires-clause-spelled c =
    let script : Script = c.requires.running.0 in
    let p : Parts = record {
      store = c.self.inside.store;
      carriers = c.self.inside.carriers.items;
      unstarted = c.self.inside.unstarted.items;
      recorded = c.self.inside.history;
      logs = c.self.inside.logs;
      made = c.self.inside.made;
    } in
    let runs : IsRunning script p = subst (λ (q : Parts). IsRunning script q) (sym c.self.view_is) c.requires.running.1 in
    state_spelled script (world_in script p) c.args.number runs.kernel
