-- Runs: a schedule is a list of turns, and a run makes them one after the other, from the world in which it begins. The turns may
-- be those of a script, or any.
use Rattle.std.specs.Prelude.{ℕ, zero, suc, List, [], ◌∷◌}
use Rattle.k_script.specs.Script.{Script}
use Rattle.k_world.specs.Boot.{booted}
use Rattle.k_world.specs.Steps.{moved, parked, sliced, started}
use Rattle.k_world.specs.Worlds.{World}

pub data Turn : Type 0 where
  Step : (carrier : ℕ) → Turn  -- one atomic step
  Start : (carrier number : ℕ) → Turn  -- the start of a number's first thread comes to a carrier
  Slice : (carrier : ℕ) → Turn  -- a carrier's slice of time ends
  Park : (carrier : ℕ) → Turn  -- a carrier is to put its hand down

abbrev pub turned : Script → Turn → World → World
turned script (Step c) w = moved script c w
turned script (Start c number) w = started c number w
turned script (Slice c) w = sliced c w
turned script (Park c) w = parked c w

abbrev pub after_turns : Script → List Turn → World → World
after_turns script [] w = w
after_turns script (t ∷ turns) w = after_turns script turns (turned script t w)

abbrev pub run_of : Script → ℕ → List Turn → World
run_of script carriers turns = after_turns script turns (booted script carriers)

-- so many steps of a carrier, and then other turns
abbrev pub burst : ℕ → ℕ → List Turn → List Turn
burst c zero turns = turns
burst c (suc n) turns = Step c ∷ burst c n turns
