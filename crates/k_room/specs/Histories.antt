-- A history that follows its script, and where that leaves the threads' programs.
use Rattle.std.specs.Prelude.{◌≡◌, ℕ, ◌+◌, List, Option, Some, None, Ok}
use Rattle.k_ids.specs.declared.threads.ThreadId.{ThreadId}
use Rattle.k_ids.specs.declared.histories.Entry.{Entry}
use Rattle.k_model.specs.State.{KernelState, id_of}
use Rattle.k_model.specs.Step.{step}
use Rattle.k_model.specs.History.{IsReplay, calls_of}
use Rattle.k_positions.specs.Positions.{IsNextAct}
use Rattle.k_script.specs.Script.{Script}
use Rattle.k_script.specs.Plays.{Plays, Position, Runs, opened_for, program_of, reply_before, start_of}

-- The history is legal, each thread's calls are those of its program so far, and this is the state that it leaves.
pub record Follows (script : Script) (entries : List Entry) (k : KernelState) : Type 0 where
  pub legal : IsReplay (opened_for script) entries k
  pub plays : Plays script entries k

-- The calls of the thread lead its program to this position, and are as many as its number shows. A thread that never was has
-- none.
abbrev pub StandsIn : Script → List Entry → KernelState → ThreadId → Position → Option ℕ → Type 0
StandsIn script entries k id p None = Unit {0}
StandsIn script entries k id p (Some program) =
    Runs script.version (reply_before k id) (start_of script program id) 1 (calls_of id entries) p
    ((k.place id.number).serial + 1)

-- So it is with the thread that each number has, and also with the one that it had last, if that was destroyed.
abbrev pub AllStand : Script → List Entry → KernelState → (ℕ → Position) → Type 0
AllStand script entries k at = (t : ℕ) → StandsIn script entries k (id_of k t) (at t) (program_of script entries (id_of k t))

-- The history follows its script, and leads the programs to these positions.
pub record LeadsTo (script : Script) (entries : List Entry) (k : KernelState) (at : ℕ → Position) : Type 0 where
  pub follows : Follows script entries k
  pub stand : AllStand script entries k at

-- The entry may come next: its event is made, has its outcome and leaves this state; and a call is the next one of its thread's
-- program.
pub record ComesNext (script : Script) (k : KernelState) (at : ℕ → Position) (e : Entry) (new : KernelState) : Type 0 where
  pub made : step k e.event ≡ Ok (new, e.outcome)
  pub due : IsNextAct script k at e.event.who e.event.act
