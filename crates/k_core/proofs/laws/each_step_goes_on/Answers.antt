use Rattle.std.proofs.Common.{sym, subst}
use Rattle.k_world.specs.Steps.{moved}
use Rattle.k_core.specs.Parts.{world_in}
use Rattle.k_running.specs.Running.{KernelHolds}
use Rattle.k_core.proofs.Steps.{inside, runs_on}
use Rattle.k_core.proofs.laws.each_step_goes_on.Goals as goal

pub returns-clause-first : goal.returns-clause-first
returns-clause-first c = λ script p carriers limits few same placed room. record {
  kernel = subst (KernelHolds script) (sym same)
      (c.the_kernel_holds_at_the_start.ensures script carriers limits few);
  placed = placed;
  room = room;
}

pub returns-clause-step : goal.returns-clause-step
returns-clause-step c = λ script p q n limits few h low same placed room.
    let w = world_in script p in
    runs_on script p q (moved script n w) h same
    (c.every_step_keeps_the_kernel.ensures script w n limits few (inside script p n low) h.kernel) placed room
