use Rattle.k_world.specs.Boot.{booted}
use Rattle.k_running.proofs.Runs.{turns_keep}
use Rattle.k_running.proofs.laws.every_run_keeps_the_kernel.Goals as goal

pub returns : goal.returns
returns c = λ script carriers turns limits room few of_these.
    let outside = c.what_comes_from_outside_keeps_all.ensures in
    turns_keep script
    (record {
      step = λ w k low h. c.every_step_keeps_the_kernel.ensures script w k limits room low h;
      start = λ w k number h low due. outside.start script w k number limits h low due;
      slice = λ w k h low. outside.slice script w k limits h low;
      park = λ w k h low. outside.park script w k limits h low;
    })
    turns (booted script carriers) (c.the_kernel_holds_at_the_start.ensures script carriers limits few) of_these
