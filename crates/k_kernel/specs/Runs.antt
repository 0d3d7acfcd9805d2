-- Runs of the world whose moves can all be made.
use Rattle.std.specs.Prelude.{List, [], ◌∷◌}
use Rattle.k_script.specs.Script.{Script}
use Rattle.k_world.specs.Runs.{Turn, turned}
use Rattle.k_world.specs.Runs as run
use Rattle.k_world.specs.Worlds.{World}
use Rattle.k_kernel.specs.Moves.{IsRunnable}

-- a turn of a schedule that is a move can be made
abbrev pub CanTurn : Script → World → Turn → Type 0
CanTurn script w (run.Step c) = IsRunnable script c w
CanTurn script w (run.Start c number) = Unit {0}
CanTurn script w (run.Slice c) = Unit {0}
CanTurn script w (run.Park c) = Unit {0}

-- so it is of each turn, one after the other
abbrev pub AreRunnable : Script → List Turn → World → Type 0
AreRunnable script [] w = Unit {0}
AreRunnable script (t ∷ turns) w = CanTurn script w t × AreRunnable script turns (turned script t w)
