-- Which call comes next of a thread's program, and where a history's entries leave the programs.
use Rattle.std.specs.Prelude.{ℕ, ◌≡◌, ◌<◌, List, length, slice_index_or, Option, Some}
use Rattle.k_ids.specs.declared.threads.ThreadId.{ThreadId}
use Rattle.k_ids.specs.declared.calls.Reply.{Reply}
use Rattle.k_ids.specs.declared.calls.Phase.{Phase}
use Rattle.k_ids.specs.declared.calls.Act.{Act}
use Rattle.k_ids.specs.declared.calls.Act.TheVariants as act
use Rattle.k_ids.specs.declared.calls.Outcome.{Outcome}
use Rattle.k_ids.specs.declared.calls.Outcome.TheVariants as outcome
use Rattle.k_ids.specs.declared.histories.Entry.{Entry}
use Rattle.k_model.specs.Maps.{upd}
use Rattle.k_model.specs.State.{KernelState}
use Rattle.k_model.specs.Answered.{reply_to}
use Rattle.k_script.specs.Script.{Script}
use Rattle.k_script.specs.Plays.{Position, phase_next, moved, start_of, created_program, no_thread}
use Rattle.k_script.specs.Place.{Place, IsPlace, position_in, no_place}

-- WHICH CALL COMES NEXT

-- the reply to the last call of the thread's number
abbrev pub reply_to_last : KernelState → ThreadId → Option Reply
reply_to_last k who = reply_to k.replies who (k.place who.number).serial

-- Only a call has to be this one.
abbrev pub IsActOf : Phase → Act → Type 0
IsActOf due (act.Call phase) = phase ≡ due
IsActOf due act.Gone = Unit {0}
IsActOf due act.Pick = Unit {0}

-- a call has to be the next one of its thread's program
abbrev pub IsNextAct : Script → KernelState → (ℕ → Position) → ThreadId → Act → Type 0
IsNextAct script k at who a = IsActOf (phase_next script.version (at who.number) (reply_to_last k who)) a

-- WHERE AN ENTRY LEAVES THE PROGRAMS, each number with the position of its thread

-- a call takes its thread's position on, given the reply to the call before
abbrev pub moved_by : Act → Position → Option Reply → Position
moved_by (act.Call phase) p last = moved p last
moved_by act.Gone p last = p
moved_by act.Pick p last = p

-- and this is then its number's
abbrev pub caller_to : (ℕ → Position) → ThreadId → Act → Position → ℕ → Position
caller_to at who (act.Call phase) p = upd at who.number p
caller_to at who act.Gone p = at
caller_to at who act.Pick p = at

-- A thread that was made stands at the start of the program that its create named.
abbrev pub begun : Script → (ℕ → Position) → Option ℕ → Outcome → ℕ → Position
begun script at (Some program) (outcome.Made id) = upd at id.number (start_of script program id)
begun script at program other = at

-- where it leaves them if its thread's own position is then this one
abbrev pub positions_to : Script → (ℕ → Position) → Entry → Position → ℕ → Position
positions_to script at e p = begun script (caller_to at e.event.who e.event.act p) (created_program e.event.act) e.outcome

abbrev pub positions_after : Script → KernelState → (ℕ → Position) → Entry → ℕ → Position
positions_after script k at e = positions_to script at e (moved_by e.event.act (at e.event.who.number) (reply_to_last k e.event.who))

-- A thread that a create made has a number of a table of this size.
abbrev pub MakesInside : ℕ → Option ℕ → Outcome → Type 0
MakesInside size (Some program) (outcome.Made id) = id.number < size
MakesInside size program other = Unit {0}

-- POSITIONS AS THEY ARE KEPT

-- the program of a thread line; a number without one has none
abbrev pub program_at : Script → ℕ → ℕ
program_at script number = (slice_index_or script.threads number no_thread).program

-- the places that are kept, as positions by number
abbrev pub positions_in : Script → List Place → ℕ → Position
positions_in script places number = position_in script (slice_index_or places number no_place)

-- one for each number of the table, each of them reached in this script
pub record ArePlaces (script : Script) (places : List Place) : Type 0 where
  pub kept : length places ≡ script.table
  pub placed : (t : ℕ) → t < script.table → IsPlace script (slice_index_or places t no_place)
