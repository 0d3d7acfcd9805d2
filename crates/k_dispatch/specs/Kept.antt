-- The running kernel, as the program of a schedule has it (k_bursts).
use Rattle.std.specs.Prelude.{◌≡◌, length}
use Rattle.k_carriers.specs.Kernel.{kernel_carriers}
use Rattle.k_core.specs.Parts.{Parts}
use Rattle.k_core.specs.Running.{IsRunning}
use Rattle.k_kernel.specs.Moves.{HasRoom}
use Rattle.k_schedule.specs.Carriers.{ScheduleLaws}
use Rattle.k_scheduled.specs.Scheduled.{kernel_facts}
use Rattle.k_script.specs.Script.{Script}
use Rattle.k_world.specs.Worlds.{World}

-- Each serial of the script can be counted, and the kernel's carriers keep the laws of a schedule.
pub record CanRun (script : Script) : Type 0 where
  pub few : HasRoom script
  pub laws : ScheduleLaws World (kernel_carriers script) (kernel_facts script)

-- It is a running kernel with the script's carriers.
pub record IsKept (script : Script) (p : Parts) : Type 0 where
  pub running : IsRunning script p
  pub count : length p.carriers ≡ script.carriers
