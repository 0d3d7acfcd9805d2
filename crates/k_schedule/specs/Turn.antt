-- A run as single turns: whatever a schedule makes of a world is made by these, one after the other.
use Rattle.std.specs.Prelude.{◌≡◌, ℕ, List, [], ◌∷◌}
use Rattle.k_script.specs.declared.lines.AtWhat.{AtWhat}
use Rattle.k_schedule.specs.Carriers.{Carriers, happens}

pub data Turn : Type 0 where
  -- one atomic step of the carrier
  StepTurn : (c : ℕ) → Turn
  -- The carrier is told to give its hand.
  ParkTurn : (c : ℕ) → Turn
  -- an event before a step of the carrier
  EventTurn : (c : ℕ) (event : AtWhat) → Turn

module _ {World : Type 0} (carriers : Carriers World) where
  abbrev pub make : Turn → World → World
  make (StepTurn c) w = carriers.step w c
  make (ParkTurn c) w = carriers.park w c
  make (EventTurn c event) w = happens carriers w c event

  abbrev pub run : List Turn → World → World
  run [] w = w
  run (turn ∷ turns) w = run turns (make turn w)

  -- Single turns lead from the one world to the other.
  abbrev pub IsReached : World → World → Type 0
  IsReached from to = (turns : List Turn) × (to ≡ run turns from)
