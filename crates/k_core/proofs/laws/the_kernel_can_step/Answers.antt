use Rattle.k_world.specs.Steps.{moved}
use Rattle.k_core.specs.Parts.{world_in}
use Rattle.k_core.proofs.Steps.{inside, steps}
use Rattle.k_core.proofs.laws.the_kernel_can_step.Goals as goal

pub returns : goal.returns
returns c = λ script p n limits few h room low.
    let w = world_in script p in
    let here = inside script p n low in
    let can = c.a_carrier_can_step.ensures in
    let after = c.every_step_keeps_the_kernel.ensures script w n limits few here h.kernel in
    steps script p n h low room (can.turn script w n limits few h.kernel here)
    (can.entry script w n limits few h.kernel here) (can.found script w n limits few h.kernel here)
    (c.what_the_kernel_has_logged.ensures.history script (moved script n w) limits after).2
