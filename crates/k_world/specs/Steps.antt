-- One atomic step of a carrier, and what it makes of the world. A start, a slice and a park set a flag of the carrier, and are no
-- atomic steps.
use Rattle.std.specs.Prelude.{ℕ, ◌+◌, ◌-◌, ◌^◌, min, Bool, false, not, Option, Some, None, List, [], ◌∷◌, ◌++◌, slice_set}
use Rattle.k_ids.specs.declared.calls.Outcome.{Outcome}
use Rattle.k_ids.specs.declared.calls.Outcome.TheVariants as outcome
use Rattle.k_ids.specs.declared.histories.Entry.{Entry}
use Rattle.k_ids.specs.declared.state_word.StateWord.{StateWord}
use Rattle.k_locks.specs.declared.points.Point.{Point}
use Rattle.k_locks.specs.Points.{entry_with}
use Rattle.k_script.specs.Script.{Script}
use Rattle.k_context.specs.Contexts.{owner_of}
use Rattle.k_carrier.specs.declared.moves.Stepped.{Stepped}
use Rattle.k_carrier.specs.Answers.{AnswerSeen}
use Rattle.k_carrier.specs.Asked.{asked, out_of}
use Rattle.k_carrier.specs.Moves.{MoveSeen}
use Rattle.k_carrier.specs.Flags as flags
use Rattle.k_carrier.specs.Resumed.{point_of, resumed}
use Rattle.k_carrier.specs.Rules.{is_helped}
use Rattle.k_carrier.specs.Running.{runner_of}
use Rattle.k_carrier.specs.Seen.{CarrierSeen, HandSeen}
use Rattle.k_carrier.specs.Told.{stepped_of}
use Rattle.k_world.specs.Marks.{Course, Still, Onward, HeldUp, broken, with_use, course_of, dropped, got_by, has_mark, held_up, marks_by, same_goal}
use Rattle.k_world.specs.Moves.{answer_by, slots_by, words_by}
use Rattle.k_world.specs.Worlds.{WaitLog, World, carrier_at, context_at, serial_at, state_at}

-- A STEP: what a carrier did, and what came of it
pub record CarrierStep : Type 0 where
  pub number : ℕ  -- of the carrier
  pub before : CarrierSeen
  pub asked : CarrierSeen  -- once it was asked for its move
  pub move : MoveSeen
  pub answer : AnswerSeen

abbrev pub carrier_after : CarrierStep → CarrierSeen
carrier_after s = resumed s.asked s.answer

-- what is told of it
abbrev pub stepped_by : CarrierStep → Stepped
stepped_by s = stepped_of s.asked s.answer

abbrev pub course_in : CarrierStep → Course
course_in s = course_of s.asked.hand s.move s.answer

-- a carrier's step in a world
abbrev pub step_with : World → ℕ → CarrierSeen → CarrierSeen → MoveSeen → CarrierStep
step_with w c before asked m = record { number = c; before = before; asked = asked; move = m; answer = answer_by w m }

unfoldable pub step_in : Script → ℕ → World → CarrierStep
step_in script c w =
    step_with w c (carrier_at w c) (asked script (carrier_at w c)) (out_of script (carrier_at w c))

-- THE HISTORY

-- the state word of the thread in hand, as it was before the step
abbrev pub caller_in : World → Option HandSeen → StateWord
caller_in w None = state_at w 0
caller_in w (Some h) = state_at w h.context

abbrev pub running : Option HandSeen → ℕ
running None = 0
running (Some h) = h.context

-- a step makes one entry at most
abbrev pub entry_by : World → Option Point → Option Entry
entry_by w None = None
entry_by w (Some p) = Some (entry_with (serial_at w) p)

abbrev pub entry_of : World → CarrierStep → Option Entry
entry_of w s = entry_by w (point_of s.asked (caller_in w s.asked.hand) s.answer)

abbrev pub recorded : Option Entry → List Entry → List Entry
recorded None history = history
recorded (Some e) history = history ++ e ∷ []

-- the last serials: that of the entry; and a new thread has made no call
abbrev pub with_new : Outcome → List ℕ → List ℕ
with_new (outcome.Made id) serials = slice_set serials id.number 0
with_new o serials = serials

abbrev pub counted_serials : Option Entry → List ℕ → List ℕ
counted_serials None serials = serials
counted_serials (Some e) serials = with_new e.outcome (slice_set serials e.event.who.number e.event.serial)

-- THE MARKS

-- whether the context in hand is the helped one
abbrev pub is_helping : CarrierSeen → Option HandSeen → Bool
is_helping k None = false
is_helping k (Some h) = is_helped k h

-- in the order of Marks: broken by an interruption, got, counted, held up, dropped
abbrev pub waits_by : World → ℕ → Bool → Course → WaitLog → WaitLog
waits_by w c is_helped Still l = l
waits_by w c is_helped (Onward v) l = with_use c (has_mark v) (got_by (owner_of v) l)
waits_by w c is_helped (HeldUp v wanted i) l = held_up c is_helped v wanted (context_at w i) l

abbrev pub unbroken_waits : World → WaitLog
unbroken_waits w = record w.waits { standing = broken w.carriers w.waits.standing }

abbrev pub waits_after : World → CarrierStep → WaitLog
waits_after w s = dropped s.number (not (same_goal s.before.goal (carrier_after s).goal))
    (waits_by w s.number (is_helping s.asked s.asked.hand) (course_in s) (unbroken_waits w))

-- THE WORLD AFTER IT

-- the count of steps stays at the end of its type
abbrev pub one_step_more : ℕ → ℕ
one_step_more n = min (n + 1) (2 ^ 64 - 1)

abbrev pub moved_by : Script → World → CarrierStep → World
moved_by script w s = record w {
  words = words_by w (running s.asked.hand) s.move;
  slots = slots_by script w s.move;
  carriers = slice_set w.carriers s.number (carrier_after s);
  serials = counted_serials (entry_of w s) w.serials;
  made = one_step_more w.made;
  history = recorded (entry_of w s) w.history;
  steps = w.steps ++ marks_by (runner_of s.asked) (course_in s);
  waits = waits_after w s;
}

-- one atomic step of the carrier with this number
unfoldable pub moved : Script → ℕ → World → World
moved script c w = moved_by script w (step_in script c w)

-- what is told of it
unfoldable pub told_of : Script → ℕ → World → Stepped
told_of script c w = stepped_by (step_in script c w)

-- WITHOUT A STEP

abbrev pub with_carrier : ℕ → CarrierSeen → World → World
with_carrier c k w = record w { carriers = slice_set w.carriers c k }

-- The start of a number's first thread comes to a carrier.
unfoldable pub started : ℕ → ℕ → World → World
started c number w =
    with_carrier c (flags.started number (carrier_at w c)) (record w { unstarted = slice_set w.unstarted number false })

-- A carrier's slice of time ends.
unfoldable pub sliced : ℕ → World → World
sliced c w = with_carrier c (flags.sliced (carrier_at w c)) w

-- A carrier puts its hand down with its next step.
unfoldable pub parked : ℕ → World → World
parked c w = with_carrier c (flags.parked (carrier_at w c)) w
