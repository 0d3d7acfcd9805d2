use Rattle.std.proofs.Common.{◌<◌, length, List, arith}
use Rattle.k_kernel.specs.Moves.{HasRoom}
use Rattle.k_script.specs.Limits.{IsScript}
use Rattle.k_script.specs.Script.{Script}
use Rattle.k_running.specs.Runs.{AreTurnsOf}
use Rattle.k_world.specs.Boot.{booted}
use Rattle.k_world.specs.Runs.{Turn, run_of}
use Rattle.k_world.specs.Worlds.{World}
use Rattle.k_waiting.proofs.Runs.{AllHolds, turns_keep}
use Rattle.k_waiting.proofs.laws.every_wait_is_within_what_it_was_allowed.Goals as goal

all_holds : (c : goal.After-what_comes_from_outside_keeps_the_waits) (script : Script) (turns : List Turn) → IsScript script →
    HasRoom script → AreTurnsOf script turns (booted script 1) → AllHolds script (run_of script 1 turns)
all_holds c script turns limits room of =
    let low = λ (w : World) (h : AllHolds script w). let one = h.waits.carriers in let n : 0 < length w.carriers = omega
    (arith, one) in n in
    let outside = c.what_comes_from_outside_keeps_all.ensures in
    let still = c.what_comes_from_outside_keeps_the_waits.ensures in
    turns_keep script
    (record {
      step = λ w h. record {
        kernel = c.every_step_keeps_the_kernel.ensures script w 0 limits room (low w h) h.kernel;
        waits = c.each_step_keeps_the_waits.ensures script w limits room h.kernel h.waits;
      };
      start = λ w number h due. record {
        kernel = outside.start script w 0 number limits h.kernel (low w h) due;
        waits = still.started script w number h.waits;
      };
      slice = λ w h. record {
        kernel = outside.slice script w 0 limits h.kernel (low w h);
        waits = still.sliced script w h.waits;
      };
      park = λ w h. record {
        kernel = outside.park script w 0 limits h.kernel (low w h);
        waits = still.parked script w h.waits;
      };
    })
    turns (booted script 1) (record {
      kernel = c.the_kernel_holds_at_the_start.ensures script 1 limits (omega arith);
      waits = c.no_wait_stands_at_the_start.ensures script;
    }) of

pub returns-clause-holds : goal.returns-clause-holds
returns-clause-holds c = λ script turns limits room of. (all_holds c script turns limits room of).waits

pub returns-clause-within : goal.returns-clause-within
returns-clause-within c = λ script turns limits room of k low. (all_holds c script turns limits room of).waits.used k low

pub returns-clause-allowed : goal.returns-clause-allowed
returns-clause-allowed c = λ script turns limits room of k low.
    ((all_holds c script turns limits room of).waits.log.waits k low).allowed

pub returns-clause-owed : goal.returns-clause-owed
returns-clause-owed c = λ script turns limits room of.
    let h = all_holds c script turns limits room of in
    let w = run_of script 1 turns in
    c.each_step_that_is_counted_is_owed.ensures script w h.kernel.board h.kernel.view w.history h.kernel.state h.kernel.aligned
    h.kernel.whole h.waits
