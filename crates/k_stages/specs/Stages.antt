-- A carrier's own context on a board, and what of it bears on who is on.
use Rattle.std.specs.Prelude.{◌≡◌, ℕ, ◌+◌, Option, Some, None, is_some}
use Rattle.k_ids.specs.declared.threads.ThreadId.{ThreadId}
use Rattle.k_switch.specs.declared.goal.Goal.{Goal}
use Rattle.k_switch.specs.declared.switch.SwitchCall.{SwitchCall}
use Rattle.k_switch.specs.declared.switch.SwitchLocked.TheVariants as locked
use Rattle.k_switch.specs.Switches.{SwitchAt, first_of_number}
use Rattle.k_switch.specs.Switches as switch
use Rattle.k_board.specs.Boards.{At, Alone, InSend, InReceive, InCreate, InDestroy, InSwitch, Resting, Coming, Nowhere, Board}
use Rattle.k_tokens.specs.World.{Carrier, OwnContext, Stage, NoSwitch, World}
use Rattle.k_tokens.specs.World as stage
use Rattle.k_grants.specs.Granted.{Agrees}

-- the thread of a goal
abbrev pub id_in : Option Goal → Option ThreadId
id_in None = None
id_in (Some g) = Some g.id

-- the thread that ran, as the load of its word showed it
abbrev pub goal_by : Option ThreadId → Option ℕ → Option Goal
goal_by (Some who) (Some priority) = Some (record { id = who; priority = priority })
goal_by (Some who) None = None
goal_by None seen = None

-- the first thread of the number that is started
abbrev pub start_by : Option ℕ → Option ℕ → Option Goal
start_by (Some number) (Some priority) = Some (record { id = first_of_number number; priority = priority })
start_by (Some number) None = None
start_by None seen = None

-- what the switch was begun with
pub record IsCall (c : SwitchCall) (own : OwnContext) : Type 0 where
  pub goal : own.goal ≡ id_in c.goal
  pub counted : own.counted ≡ c.counted
  pub slice : own.slice_ended ≡ c.slice_ended
  pub start : own.start ≡ c.start

-- The location is the stage, and it knows what the stage knows.
abbrev pub IsStage : SwitchCall → SwitchAt → OwnContext → Type 0
IsStage c switch.AcquireReady own = IsCall c own × (own.stage ≡ stage.AcquireReady)
IsStage c (switch.Locked (locked.LoadGoal goal)) own = IsCall c own × (own.stage ≡ stage.LoadGoal) × (c.goal ≡ Some goal)
IsStage c (switch.Locked (locked.LoadStart back number)) own =
    IsCall c own × (own.stage ≡ stage.LoadStart) × (c.start ≡ Some number) × (back ≡ goal_by own.goal own.goal_seen)
IsStage c (switch.Locked (locked.ReleaseReady back started)) own =
    IsCall c own × (own.stage ≡ stage.ReleaseReady) × (back ≡ goal_by own.goal own.goal_seen) ×
    (started ≡ start_by own.start own.start_seen)
IsStage c (switch.Returned s) own = ⊥
IsStage c (switch.Finished s) own =
    (own.stage ≡ stage.Finished) × (own.goal ≡ id_in s.goal) × (own.counted ≡ is_some s.goal) × (own.idle ≡ s.idle)

-- where a carrier's own context stands
abbrev pub IsOwn : At → OwnContext → Type 0
IsOwn (InSwitch c p) own = IsStage c p own
IsOwn Resting own = own.stage ≡ NoSwitch
IsOwn (Alone p) own = ⊥
IsOwn (InSend c p) own = ⊥
IsOwn (InReceive c p) own = ⊥
IsOwn (InCreate c p) own = ⊥
IsOwn (InDestroy c p) own = ⊥
IsOwn Coming own = ⊥
IsOwn Nowhere own = own.stage ≡ NoSwitch  -- there is no such carrier

-- The carriers' own contexts come after those of the numbers of the table.
abbrev pub StagesAre : Board → World → Type 0
StagesAre b w = (d : ℕ) → IsOwn (b.context (b.size + d)).at (w.own d)

-- A switch begins with what its carrier has: its goal, its mark, the slice of time that has ended, and the start that comes
-- first.
pub record IsFrom (c : SwitchCall) (carrier : Carrier) (first : Option ℕ) : Type 0 where
  pub goal : id_in c.goal ≡ carrier.goal
  pub counted : c.counted ≡ carrier.counted
  pub slice : c.slice_ended ≡ carrier.slice
  pub start : c.start ≡ first

-- Board and world agree, and each carrier's own context stands at its stage.
pub record AreAlike (b : Board) (w : World) : Type 0 where
  pub agrees : Agrees b w
  pub stages : StagesAre b w
