-- A schedule worked out by hand, on a small world: two carriers, each with some steps to make. A step takes the carrier's work
-- in hand, or makes one step of it. The world notes each single turn, so that it tells in which order they came.
use Rattle.std.specs.Prelude.{ℕ, ◌+◌, ◌≤◌, ◌==◌, Bool, true, false, ◌&&◌, List, [], ◌∷◌, if◌then◌else◌, zero, suc}
use Rattle.k_script.specs.declared.lines.AtLine.{AtLine}
use Rattle.k_script.specs.declared.lines.AtWhat.{AtWhat}
use Rattle.k_script.specs.declared.lines.AtWhat.TheVariants as what
use Rattle.k_script.specs.declared.lines.Item.TheVariants as item
use Rattle.k_script.specs.Script.{Script}
use Rattle.k_schedule.specs.Carriers.{AllSettled, Carriers, Facts}
use Rattle.k_schedule.specs.Parts.{Parts}
use Rattle.k_schedule.specs.Schedule.{Moment, moment}
use Rattle.k_schedule.specs.Turn.{EventTurn, ParkTurn, StepTurn, Turn, run}

-- what a carrier is at
pub data Stage : Type 0 where
  -- It has nothing to do.
  AtRest : Stage
  -- It is to take its work in hand; so many steps are to be made after the next one of it.
  Waits : (steps : ℕ) → Stage
  -- It has it in hand.
  Works : (steps : ℕ) → Stage

pub record Worker : Type 0 where
  pub stage : Stage
  -- It is to put its work down.
  pub putting : Bool

pub record SmallWorld : Type 0 where
  pub workers : ℕ → Worker
  pub made : ℕ
  -- the turns that were made, the last one first
  pub turns : List Turn

abbrev pub is_at_rest : Stage → Bool
is_at_rest AtRest = true
is_at_rest stage = false

abbrev pub is_working : Stage → Bool
is_working (Works steps) = true
is_working stage = false

-- how many steps it has left beside the next one
abbrev pub steps_left : Stage → ℕ
steps_left AtRest = 0
steps_left (Waits steps) = steps
steps_left (Works steps) = steps

abbrev pub worker : Stage → Bool → Worker
worker stage putting = record { stage = stage; putting = putting }

-- with work in hand, by whether it is to put it down
abbrev pub worked_on : Bool → ℕ → Worker
worked_on true steps = worker (Waits steps) false
worked_on false zero = worker AtRest false
worked_on false (suc steps) = worker (Works steps) false

abbrev pub after_step : Stage → Bool → Worker
after_step AtRest putting = worker AtRest putting
after_step (Waits steps) putting = worker (Works steps) putting
after_step (Works steps) putting = worked_on putting steps

-- So many more steps are to be made, and one.
abbrev pub with_more : ℕ → Stage → Stage
with_more number AtRest = Waits number
with_more number (Waits steps) = Waits (steps + number + 1)
with_more number (Works steps) = Works (steps + number + 1)

abbrev pub with_worker : SmallWorld → ℕ → Worker → ℕ → Worker
with_worker w c new i = if i == c then new else w.workers i

abbrev pub small_step : SmallWorld → ℕ → SmallWorld
small_step w c = record {
  workers = with_worker w c (after_step (w.workers c).stage (w.workers c).putting);
  made = w.made + 1;
  turns = StepTurn c ∷ w.turns;
}

abbrev pub small_start : SmallWorld → ℕ → ℕ → SmallWorld
small_start w c number = record w {
  workers = with_worker w c (worker (with_more number (w.workers c).stage) (w.workers c).putting);
  turns = EventTurn c (what.Start number) ∷ w.turns;
}

-- The end of a slice changes nothing here. It is noted at the carrier that it names.
abbrev pub small_slice : SmallWorld → ℕ → SmallWorld
small_slice w c = record w { turns = EventTurn c (what.Slice c) ∷ w.turns }

abbrev pub small_park : SmallWorld → ℕ → SmallWorld
small_park w c = record w {
  workers = with_worker w c (worker (w.workers c).stage true);
  turns = ParkTurn c ∷ w.turns;
}

abbrev pub is_settled : SmallWorld → ℕ → Bool
is_settled w c = is_at_rest (w.workers c).stage

abbrev pub small_carriers : Carriers SmallWorld
small_carriers = record {
  count = 2;
  step = small_step;
  idles = λ w c. is_settled (small_step w c) 0 && is_settled (small_step w c) 1;
  start = small_start;
  slice = small_slice;
  park = small_park;
  made = λ w. w.made;
  settled = is_settled;
  has_hand = λ w c. is_working (w.workers c).stage;
}

-- THE WORLD KEEPS THE LAWS: what its facts are

abbrev pub added_by : AtWhat → ℕ
added_by (what.Start number) = number + 1
added_by (what.Slice carrier) = 0

-- how much the lines add at most
abbrev pub added : List AtLine → ℕ
added [] = 0
added (line ∷ lines) = added_by line.what + added lines

abbrev pub work_at : Stage → Bool → ℕ
work_at AtRest putting = 0
work_at (Waits steps) true = steps + 4
work_at (Waits steps) false = steps + 2
work_at (Works steps) true = steps + 3
work_at (Works steps) false = steps + 1

-- All that a worker has to do are its own steps.
abbrev pub parts_at : Stage → Bool → Parts
parts_at stage putting = record { room = 0; owed = 0; steps = work_at stage putting; near = 0 }

abbrev pub small_facts : Facts SmallWorld
small_facts = record {
  IsGood = λ w lines. (c : ℕ) → steps_left (w.workers c).stage + added lines ≤ 100;
  IsFinished = λ w. AllSettled small_carriers w;
  putting = λ w c. (w.workers c).putting;
  parts = λ w c. parts_at (w.workers c).stage (w.workers c).putting;
  IsFresh = λ w c. Unit {0};
}

-- THE SCHEDULE

-- two steps to come for carrier 0, and one for carrier 1
abbrev pub first_worker : ℕ → Worker
first_worker zero = worker (Waits 1) false
first_worker (suc i) = worker (Waits 0) false

abbrev pub small_world : SmallWorld
small_world = record { workers = first_worker; made = 0; turns = [] }

abbrev pub starts_at : ℕ → ℕ → AtLine
starts_at step number = record { step = step; what = what.Start number }

abbrev pub ends_slice_at : ℕ → ℕ → AtLine
ends_slice_at step carrier = record { step = step; what = what.Slice carrier }

abbrev pub small_script : Script
small_script = record {
  version = 1;
  table = 4;
  carriers = 2;
  show_steps = false;
  aged = [];
  programs = [];
  threads = [];
  at_lines = ends_slice_at 1 1 ∷ starts_at 4 0 ∷ ends_slice_at 40 0 ∷ starts_at 40 1 ∷ starts_at 50 0 ∷ [];
  turns = item.Steps 0 1 ∷ item.Park 1 ∷ item.Steps 1 1 ∷ item.Park 0 ∷ [];
}

-- In the turns of the script, carrier 1 has no hand when it is to be parked, and carrier 0 puts down its work. When the tail
-- begins, carrier 1 puts down its own. A burst of carrier 0 takes four steps, with an event before the first of them. One of
-- carrier 1 takes two, and ends with Idle. Then lines are left: those of step 40 happen at once, though only 10 steps were made,
-- and carrier 1 goes on; and so does the line of step 50.
abbrev pub worked_turns : List Turn
worked_turns =
    StepTurn 0 ∷ EventTurn 1 (what.Slice 1) ∷ StepTurn 1 ∷ ParkTurn 0 ∷ StepTurn 0 ∷ ParkTurn 1 ∷ StepTurn 1
    ∷ EventTurn 0 (what.Start 0) ∷ StepTurn 0 ∷ StepTurn 0 ∷ StepTurn 0 ∷ StepTurn 0 ∷ StepTurn 1 ∷ StepTurn 1
    ∷ EventTurn 0 (what.Slice 0) ∷ EventTurn 1 (what.Start 1) ∷ StepTurn 1 ∷ StepTurn 1 ∷ StepTurn 1
    ∷ EventTurn 1 (what.Start 0) ∷ StepTurn 1 ∷ StepTurn 1 ∷ []

-- where the run ends
abbrev pub worked_end : Moment SmallWorld
worked_end = moment (run small_carriers worked_turns small_world) []
