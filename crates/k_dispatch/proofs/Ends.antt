-- A run that was played to its end, as the outcome tells it.
use Rattle.std.proofs.Common.{◌≡◌, [], sym, subst}
use Rattle.k_bursts.specs.Playing.{IsPlayed}
use Rattle.k_carriers.specs.Kernel.{kernel_carriers}
use Rattle.k_schedule.specs.Schedule.{IsRun, Moment, moment}
use Rattle.k_scheduled.specs.Scheduled.{kernel_facts}
use Rattle.k_script.specs.Script.{Script}
use Rattle.k_world.specs.Worlds.{World}

-- No line is left.
pub run_to : (script : Script) (first after : World) →
    IsPlayed (kernel_carriers script) (kernel_facts script) script first after →
    IsRun (kernel_carriers script) script first (moment after [])
run_to script first after p =
    let same : p.end ≡ moment after [] = λ i. record { world = sym p.shown i; ahead = p.ended.none i } in
    subst (λ (m : Moment World). IsRun (kernel_carriers script) script first m) same p.run
