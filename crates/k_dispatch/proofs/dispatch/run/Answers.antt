use Rattle.std.proofs.Common.{◌≡◌, ℕ, [], ap, ◌∙◌, subst}
use Rattle.k_carriers.specs.Kernel.{kernel_carriers}
use Rattle.k_core.specs.Parts.{world_in}
use Rattle.k_schedule.specs.Schedule.{IsRun, moment}
use Rattle.k_world.specs.Boot.{booted}
use Rattle.k_world.specs.Worlds.{World}
use Rattle.k_dispatch.proofs.Ends.{run_to}
use Rattle.k_dispatch.proofs.dispatch.run.Goals as goal

pub run_schedule-requires-clause-can : goal.run_schedule-requires-clause-can
run_schedule-requires-clause-can c =
    let script = c.args.script.now in
    let few = c.a_script_within_the_limit_has_room.ensures script c.requires.short in
    record { few = few; laws = c.the_kernel_keeps_the_schedule.ensures script c.holds.ensures few }

pub ended-requires-clause-run : goal.ended-requires-clause-run
ended-requires-clause-run c =
    let script = c.args.script.now in
    let after = world_in script c.run_schedule.new.kernel.world in
    let begins : world_in script c.in_ok-world.world ≡ booted script script.carriers =
    c.in_ok-world.ensures.world ∙ ap (λ (n : ℕ). booted script n) c.carriers.ensures in
    subst (λ (w : World). IsRun (kernel_carriers script) script w (moment after [])) begins
    (run_to script (world_in script c.in_ok-world.world) after c.in_ok-run_schedule.ensures.played)
