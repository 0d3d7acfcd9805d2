-- Where code stands in a script's schedule, and what a run of it leaves.
use Rattle.std.specs.Prelude.{◌≡◌, ◌≤◌, ℕ, List, ◌∷◌, drop, length}
use Rattle.k_script.specs.declared.lines.AtLine.{AtLine}
use Rattle.k_script.specs.declared.lines.AtWhat.{AtWhat}
use Rattle.k_script.specs.Script.{Script}
use Rattle.k_schedule.specs.Bursts.{IsEnd}
use Rattle.k_schedule.specs.Carriers.{Carriers, Facts}
use Rattle.k_schedule.specs.Schedule.{IsRun, Moment, moment}

-- This world, where the line of this index is the next one to be made.
abbrev pub moment_at : {World : Type 0} → Script → World → ℕ → Moment World
moment_at script w next = moment w (drop next script.at_lines)

-- The world is good, and the lines from this index on are still to come.
pub record Stands {World : Type 0} (facts : Facts World) (script : Script) (w : World) (next : ℕ) : Type 0 where
  pub within : next ≤ length script.at_lines
  pub good : facts.IsGood w (drop next script.at_lines)

-- The next line is one of this event.
abbrev pub IsNext : {World : Type 0} → Facts World → World → AtWhat → Type 0
IsNext facts w event = (line : AtLine) × (lines : List AtLine) × (line.what ≡ event) × facts.IsGood w (line ∷ lines)

-- The run of the script from this world ends, and the world at its end is this one. No line is left then, each carrier is settled, and
-- no thread can go on.
pub record IsPlayed {World : Type 0} (carriers : Carriers World) (facts : Facts World) (script : Script) (w after : World) : Type 0 where
  pub end : Moment World
  pub run : IsRun carriers script w end
  pub shown : after ≡ end.world
  pub ended : IsEnd carriers facts end
