-- The running kernel, as a schedule sees it: when its world is good, and what is known of it beside.
use Rattle.std.specs.Prelude.{◌≡◌, ℕ, ◌==◌, List, length}
use Rattle.std.specs.List.{AllByRecursion, count_by}
use Rattle.k_tokens.specs.Maps.{one_if}
use Rattle.k_script.specs.declared.lines.AtLine.{AtLine}
use Rattle.k_script.specs.Limits.{IsAtLine, started}
use Rattle.k_script.specs.Script.{Script}
use Rattle.k_carrier.specs.Starts.{is_due}
use Rattle.k_world.specs.Worlds.{World, carrier_at}
use Rattle.k_schedule.specs.Carriers.{Facts}
use Rattle.k_running.specs.Running.{KernelHolds}
use Rattle.k_lowered.specs.Lowered.{parts_in}
use Rattle.k_ending.specs.Ending.{IsAtEnd, IsFreshIn}

-- how often the lines start the thread of this number
abbrev pub times_started : ℕ → List AtLine → ℕ
times_started number lines = count_by (λ n. n == number) (started lines)

-- All of the kernel holds, and these lines are still to come.
pub record IsGoodAt (script : Script) (w : World) (lines : List AtLine) : Type 0 where
  pub holds : KernelHolds script w
  -- The world has the carriers of the script.
  pub count : length w.carriers ≡ script.carriers
  -- The lines start each thread once whose start hasn't come yet, and no other.
  pub starts : (number : ℕ) → times_started number lines ≡ one_if (is_due w.unstarted number)
  -- They name threads and carriers of the script.
  pub events : AllByRecursion (IsAtLine script.carriers (length script.threads)) lines

abbrev pub kernel_facts : Script → Facts World
kernel_facts script = record {
  IsGood = IsGoodAt script;
  IsFinished = IsAtEnd script;
  putting = λ w c. (carrier_at w c).putting;
  parts = parts_in script;
  IsFresh = IsFreshIn script;
}
