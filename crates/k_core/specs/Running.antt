-- The running kernel, of the world as code has it.
use Rattle.std.specs.Prelude.{◌≤◌, ◌*◌}
use Rattle.k_script.specs.Script.{Script}
use Rattle.k_script.specs.Weight.{phases_of}
use Rattle.k_running.specs.Running.{KernelHolds}
use Rattle.k_core.specs.Parts.{ArePlaced, Parts, world_in}

-- The world is a running kernel of this script, the places of its threads are the script's, and the history has room for
-- two events of each call.
pub record IsRunning (script : Script) (p : Parts) : Type 0 where
  pub kernel : KernelHolds script (world_in script p)
  pub placed : ArePlaced script p
  pub room : 2 * phases_of script ≤ p.recorded.capacity
