-- What is still to do in a burst of one carrier, as parts of a measure: what the contexts of the board owe,
-- the threads
-- that carriers have beside the ready lists, and the switches that the carrier may still begin.
use Rattle.std.specs.Prelude.{◌≡◌, ℕ, ◌+◌, ◌*◌, ◌==◌, ◌≤◌, Bool, true, if◌then◌else◌, Option, Some, None}
use Rattle.k_ids.specs.declared.threads.ThreadId.{ThreadId}
use Rattle.k_model.specs.Maps.{count}
use Rattle.k_caller.specs.declared.thread.ThreadLocation.TheVariants as location
use Rattle.k_script.specs.Plays.{Position}
use Rattle.k_room.specs.Room.{sum_below}
use Rattle.k_board.specs.Boards.{Alone, Board}
use Rattle.k_tokens.specs.Maps.{one_if}
use Rattle.k_tokens.specs.World.{Carrier, OwnContext, World, has_switch}
use Rattle.k_grants.specs.Granted.{Finding}
use Rattle.k_schedule.specs.Parts.{Parts}
use Rattle.k_owed.specs.Owes.{entry_worth, one_for, switch_worth}
use Rattle.k_owed.specs.Owed.{owed, pushes_at, steps_owed}

-- OF A CARRIER

-- how many first threads it is to start
abbrev pub starts_of : Carrier → ℕ
starts_of carrier = count carrier.starts 64

-- The threads that it has: its goal, and those that it is to start. Where its own context has a switch, the
-- goal is the
-- switch's, and counts there.
abbrev pub threads_by : (in_switch : Bool) → (goal : Option ThreadId) → (starts : ℕ) → ℕ
threads_by in_switch goal starts = (if in_switch then 0 else one_for goal) + starts

abbrev pub threads_of : OwnContext → Carrier → ℕ
threads_of own carrier = threads_by (has_switch own.stage) carrier.goal (starts_of carrier)

-- what makes it switch: each start, the end of its slice of time, and a thread above its goal
abbrev pub flags_of : Carrier → ℕ
flags_of carrier = starts_of carrier + one_if carrier.slice + one_if carrier.resched

abbrev pub lacks_goal : (goal : Option ThreadId) → (flags : ℕ) → ℕ
lacks_goal (Some who) flags = 0
lacks_goal None flags = if flags == 0 then 1 else 0

-- How many switches it may still begin: one for each flag; and where there is none, one for the goal that
-- it doesn't have,
-- unless a switch stands in its own context.
abbrev pub switches_by : (in_switch : Bool) → (goal : Option ThreadId) → (flags : ℕ) → ℕ
switches_by in_switch goal flags = flags + (if in_switch then 0 else lacks_goal goal flags)

abbrev pub switches_of : OwnContext → Carrier → ℕ
switches_of own carrier = switches_by (has_switch own.stage) carrier.goal (flags_of carrier)

-- OF ALL

-- the threads that carriers have, or are to start
abbrev pub threads_at : World → ℕ → ℕ
threads_at w d = threads_of (w.own d) (w.carrier d)

abbrev pub threads_had : World → ℕ
threads_had w = sum_below (threads_at w) w.carriers

-- threads' contexts come first, and then those of the carriers
abbrev pub contexts_of : Board → World → ℕ
contexts_of b w = b.size + w.carriers

-- The history has room for so many entries, and the carrier is so near to its next step of a section.
abbrev pub work_parts : (work : Position → ℕ) → Board → World → (c room near : ℕ) → Parts
work_parts work b w c room near = record {
  room = room;
  owed = owed b (contexts_of b w);
  steps = steps_owed work b (contexts_of b w) + entry_worth * threads_had w
      + switch_worth * switches_of (w.own c) (w.carrier c);
  near = near;
}

-- WHAT A STEP OF A THREAD'S CONTEXT STANDS ON BESIDES: one that works has work left; and a thread above the
-- carrier's goal
-- is found only where one is put into a ready list.
pub record IsMade (b : Board) (i : ℕ) (found : Finding) : Type 0 where
  pub work : (count : ℕ) → (b.context i).at ≡ Alone (location.Work count) → 1 ≤ count
  pub above : found.above ≡ true → pushes_at (b.context i).at ≡ true
