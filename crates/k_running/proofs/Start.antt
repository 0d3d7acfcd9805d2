-- The kernel holds at the start.
use Rattle.std.proofs.Common.{◌≤◌, ℕ, sym, ◌∙◌}
use Rattle.k_script.specs.Limits.{IsScript}
use Rattle.k_script.specs.Plays.{opened_for}
use Rattle.k_script.specs.Script.{Script}
use Rattle.k_world.specs.Boot.{booted}
use Rattle.k_world.proofs.Booted.{booted_sized}
use Rattle.k_world.proofs.Worlds.{lawful_booted}
use Rattle.k_places.specs.Boots.{boot_board}
use Rattle.k_spelled.specs.Words.{WordsHold}
use Rattle.k_handling.specs.Handling.{HasKernel}
use Rattle.k_beginning.proofs.Starts.{finished_first}
use Rattle.k_counted.specs.Marks.{MarksHold}
use Rattle.k_running.specs.Running.{KernelHolds}

pub first_kernel_holds : (script : Script) (carriers : ℕ) → IsScript script → carriers ≤ 8 →
    HasKernel script (boot_board script carriers) (booted script carriers) (opened_for script) →
    WordsHold (boot_board script carriers) → MarksHold script (booted script carriers) →
    KernelHolds script (booted script carriers)
first_kernel_holds script carriers limits few r words marks = record {
  board = boot_board script carriers;
  view = r.view;
  state = opened_for script;
  aligned = r.kernel.aligned;
  whole = r.kernel.whole;
  serials = r.kernel.serials;
  spelled = words;
  helps = r.kernel.helps;
  finished = finished_first script carriers limits few;
  waits = (
    lawful_booted script carriers,
    (booted_sized script carriers).standing ∙ sym (booted_sized script carriers).carriers,
  );
  marks = marks;
}
