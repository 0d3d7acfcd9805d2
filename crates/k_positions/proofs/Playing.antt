-- A history that plays a script: what holds after each of its entries.
use Rattle.std.specs.Prelude.{◌≡◌, ◌<◌, ◌⊎◌, ℕ, ◌+◌, false, true, List, [], Option, Some, None, is_some}
use Rattle.k_ids.specs.declared.threads.ThreadId.{ThreadId}
use Rattle.k_ids.specs.declared.histories.Entry.{Entry}
use Rattle.k_model.specs.State.{KernelState, id_of, is_dead}
use Rattle.k_model.specs.Sound.{IsSound}
use Rattle.k_model.specs.Ranges.{IsRanged}
use Rattle.k_model.specs.Answered.{IsAnswered}
use Rattle.k_model.specs.Keeps.{is_settled}
use Rattle.k_model.specs.History.{IsReplay, calls_of}
use Rattle.k_script.specs.Script.{Script}
use Rattle.k_script.specs.Plays.{Position, Runs, start_of, program_of, reply_before, opened_for}

-- The thread has a program, and its calls are those that lead to this position of it. It isn't over where the thread may go
-- on.
pub record IsAt (script : Script) (es : List Entry) (k : KernelState) (id : ThreadId) (p : Position) : Type 0 where
  pub program : ℕ
  pub is : program_of script es id ≡ Some program
  pub runs : Runs script.version (reply_before k id) (start_of script program id) 1 (calls_of id es) p ((k.place id.number).serial + 1)
  pub going : is_settled (k.place id.number).status ≡ false → is_some p.left ≡ true

-- A thread that is, or was, has made the calls of its program up to a position: one of an earlier version for good, and the
-- last one of its number as many as the number shows.
pub record HasPlayed (script : Script) (es : List Entry) (k : KernelState) (id : ThreadId) (program : ℕ) : Type 0 where
  pub position : Position
  pub next : ℕ
  pub runs : Runs script.version (reply_before k id) (start_of script program id) 1 (calls_of id es) position next
  pub early : (id.version < (k.place id.number).version) ⊎ ((id.version ≡ (k.place id.number).version) × (next ≡ (k.place id.number).serial + 1))

abbrev pub PlayedIn : Script → List Entry → KernelState → ThreadId → Option ℕ → Type 0
PlayedIn script es k id None = calls_of id es ≡ []
PlayedIn script es k id (Some program) = HasPlayed script es k id program

-- The history is legal and plays the script, a thread that is still to be made has no program, and those that are there stand
-- at these positions of their programs.
pub record IsPlaying (script : Script) (es : List Entry) (k : KernelState) (at : ℕ → Position) : Type 0 where
  pub replay : IsReplay (opened_for script) es k
  pub size : k.size ≡ script.table
  pub sound : IsSound k
  pub answered : IsAnswered k
  pub ranged : IsRanged k
  pub played : (id : ThreadId) → PlayedIn script es k id (program_of script es id)
  pub unborn : (id : ThreadId) → (k.place id.number).version < id.version → program_of script es id ≡ None
  pub present : (t : ℕ) → is_dead (k.place t).status ≡ false → IsAt script es k (id_of k t) (at t)
