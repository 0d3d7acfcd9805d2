-- What is counted when a run begins: nothing. The contexts are those that lie in the slots of the world in which it begins.
use Rattle.std.specs.Prelude.{ℕ, []}
use Rattle.k_script.specs.Script.{Script}
use Rattle.k_world.specs.Boot.{boot_resting, boot_state}
use Rattle.k_world.specs.Worlds.{resting_in}
use Rattle.k_marks.specs.Counting.{Counting}

abbrev pub boot_counting : Script → ℕ → Counting
boot_counting script carriers = record {
  marks = [];
  context = λ n. resting_in (boot_resting script carriers n);
  version = λ n. (boot_state script n).version;
}
