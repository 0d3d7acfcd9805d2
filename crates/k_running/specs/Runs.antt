-- Runs of the kernel: any turns of its carriers, in any order.
use Rattle.std.specs.Prelude.{◌≡◌, ◌<◌, true, length, List, [], ◌∷◌}
use Rattle.k_script.specs.Script.{Script}
use Rattle.k_carrier.specs.Starts.{is_due}
use Rattle.k_world.specs.Runs.{Turn, turned}
use Rattle.k_world.specs.Runs as run
use Rattle.k_world.specs.Worlds.{World}

-- The turn is one of a carrier that there is; and a start hasn't come yet.
abbrev pub IsTurnOf : World → Turn → Type 0
IsTurnOf w (run.Step c) = c < length w.carriers
IsTurnOf w (run.Start c number) = (c < length w.carriers) × (is_due w.unstarted number ≡ true)
IsTurnOf w (run.Slice c) = c < length w.carriers
IsTurnOf w (run.Park c) = c < length w.carriers

-- so it is of each, one after the other
abbrev pub AreTurnsOf : Script → List Turn → World → Type 0
AreTurnsOf script [] w = Unit {0}
AreTurnsOf script (t ∷ turns) w = IsTurnOf w t × AreTurnsOf script turns (turned script t w)
