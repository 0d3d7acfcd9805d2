-- What a run of a script leaves.
use Rattle.std.specs.Prelude.{◌≡◌, []}
use Rattle.k_calls.specs.Calls.{IsCalls}
use Rattle.k_carriers.specs.Kernel.{kernel_carriers}
use Rattle.k_replay.specs.Reports as reports
use Rattle.k_schedule.specs.Schedule.{IsRun, moment}
use Rattle.k_script.specs.Script.{Script}
use Rattle.k_world.specs.Boot.{booted}
use Rattle.k_world.specs.Worlds.{World}
use Rattle.k_dispatch.specs.declared.dispatch.RunEnd.{RunEnd}

-- The run of the script's schedule, from the world in which the kernel begins with the script's carriers, ends at this world,
-- and no line of the schedule is left. The history and the marks are that world's, and the calls are those of its step marks. The
-- history is legal, plays the script and is finished; the replies and the final statuses are those of the state that it leaves.
pub record IsOutcome (script : Script) (end : RunEnd) : Type 0 where
  pub world : World
  pub run : IsRun (kernel_carriers script) script (booted script script.carriers) (moment world [])
  pub history : end.history.items ≡ world.history
  pub steps : end.steps.items ≡ world.steps
  pub calls : IsCalls world.steps end.calls.items
  pub waits : end.waits.items ≡ world.waits.marks
  pub links : end.links.items ≡ world.waits.links
  pub made : end.made ≡ world.made
  pub replayed : reports.IsRun script world.history end.replies.items end.finals.items
