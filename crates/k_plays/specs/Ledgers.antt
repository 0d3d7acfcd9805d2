-- The ledgers of a board and the history: what a linearization point stands on, and what it keeps.
use Rattle.std.specs.Prelude.{◌≡◌, ◌<◌, ℕ, List, Ok}
use Rattle.k_board.specs.Words.{Begins, Programs, Seen}
use Rattle.k_ids.specs.declared.calls.Act.{Act}
use Rattle.k_ids.specs.declared.calls.Act.TheVariants as act
use Rattle.k_ids.specs.declared.histories.Entry.{Entry}
use Rattle.k_ids.specs.declared.threads.ThreadId.{ThreadId}
use Rattle.k_locks.specs.Points.{entry_with}
use Rattle.k_locks.specs.declared.points.Point.{Point}
use Rattle.k_model.specs.State.{KernelState}
use Rattle.k_model.specs.Step.{step}
use Rattle.k_plays.specs.Messages.{IsFilled, StateHasWords}
use Rattle.k_positions.specs.Positions.{reply_to_last}
use Rattle.k_room.specs.Histories.{LeadsTo}
use Rattle.k_script.specs.Plays.{IsWithin, Position}
use Rattle.k_script.specs.Script.{Script}

-- where the ledgers have the programs
abbrev pub places_of : (ℕ → Seen) → ℕ → Position
places_of s t = (s t).position

-- The ledger has the replay's reply to the last call of this thread.
abbrev pub IsTold : KernelState → (ℕ → Seen) → ThreadId → Type 0
IsTold k s who = (s who.number).told ≡ reply_to_last k who

-- A call has to be the one that the program gives after what the ledger has. Other events are no calls.
abbrev pub IsGiven : Programs → KernelState → (ℕ → Seen) → ThreadId → Act → Position → Type 0
IsGiven g k s who (act.Call f) at = IsTold k s who × Begins g (s who.number).position (s who.number).told f at
IsGiven g k s who act.Gone at = Unit {0}
IsGiven g k s who act.Pick at = Unit {0}

-- The specification makes the event of this linearization point, with its outcome, and goes on with this state. `last` has each
-- number's last serial, and `at` the position that the context has which makes the point.
pub record MakesPoint (g : Programs) (k : KernelState) (s : ℕ → Seen) (last : ℕ → ℕ) (p : Point) (at : Position)
    (new : KernelState) : Type 0 where
  pub made : step k (entry_with last p).event ≡ Ok (new, p.outcome)
  pub given : IsGiven g k s p.who p.act at

-- The history follows its script, and the ledgers have the programs where it leads them. Each is within the script, also that of
-- a number which has no thread. Each message, of the programs and of the state that the history leaves, is two words of 32
-- bits.
pub record AreLedgers (script : Script) (entries : List Entry) (k : KernelState) (s : ℕ → Seen) : Type 0 where
  pub leads : LeadsTo script entries k (places_of s)
  pub within : (t : ℕ) → t < script.table → IsWithin script (s t).position
  pub filled : (t : ℕ) → t < script.table → IsFilled (s t).position
  pub words : StateHasWords k
