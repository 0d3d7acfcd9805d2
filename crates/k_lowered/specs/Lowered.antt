-- How much work a raw world has for a carrier in a burst, as parts of the measure of a burst.
use Rattle.std.specs.Prelude.{ℕ, ◌-◌, ◌*◌, length}
use Rattle.k_script.specs.Script.{Script}
use Rattle.k_script.specs.Weight.{phases_of}
use Rattle.k_world.specs.Worlds.{World}
use Rattle.k_schedule.specs.Parts.{Parts}
use Rattle.k_owed.specs.Works.{work_ahead}
use Rattle.k_work.specs.Near.{near_of}
use Rattle.k_work.specs.Work.{work_parts}
use Rattle.k_lowered.specs.Shown.{board_in, view_in}

-- how many entries the history has room for
abbrev pub room_in : Script → World → ℕ
room_in script w = 2 * phases_of script - length w.history

-- the work of carrier `c`, in its parts, of the board and the carriers that the world shows
abbrev pub parts_in : Script → World → ℕ → Parts
parts_in script w c =
    work_parts work_ahead (board_in script w) (view_in script w) c (room_in script w) (near_of (view_in script w) c)
