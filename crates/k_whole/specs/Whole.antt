-- The kernel whole: a board with the history that was made on the way to it, and the carriers that make the steps.
use Rattle.std.specs.Prelude.{◌≡◌, ◌≢◌, ℕ, ◌+◌, ◌<◌, ◌≤◌, true, false, Option, Some, None, List, ◌++◌}
use Rattle.k_ids.specs.declared.histories.Entry.{Entry}
use Rattle.k_ids.specs.declared.threads.ThreadId.{ThreadId}
use Rattle.k_model.specs.Maps.{lowest}
use Rattle.k_model.specs.State.{KernelState}
use Rattle.k_locks.specs.Asks.{Response}
use Rattle.k_locks.specs.declared.points.Point.{Point}
use Rattle.k_script.specs.Script.{Script}
use Rattle.k_caller.specs.declared.thread.ThreadLocation.TheVariants as location
use Rattle.k_switch.specs.declared.goal.Switched.{Switched}
use Rattle.k_switch.specs.declared.switch.SwitchCall.{SwitchCall}
use Rattle.k_switch.specs.Switches.{SwitchAt}
use Rattle.k_switch.specs.Switches as switch
use Rattle.k_board.specs.Words.{Programs}
use Rattle.k_board.specs.Boards.{Alone, Board, InSwitch, Nowhere, Resting}
use Rattle.k_board.specs.Steps.{Answers, placed, switch_board}
use Rattle.k_board.specs.Turns.{Turn, is_going}
use Rattle.k_tokens.specs.World.{ContextName, OfCarrier, OfThread, World, is_absent}
use Rattle.k_tokens.specs.Grants.{Grants}
use Rattle.k_tokens.specs.Steps.{ThreadStep, FindsTaken}
use Rattle.k_switching.specs.Boot.{Opening}
use Rattle.k_switching.specs.Claims.{IsAsked}
use Rattle.k_switching.specs.Rules.{begun_with, carrier_step, taken_asleep}
use Rattle.k_grants.specs.Granted.{Finding, IsFound, IsFreeToRemove, IsWait, is_again}
use Rattle.k_stages.specs.Opening.{IsOpening}
use Rattle.k_stages.specs.Stages.{IsFrom}
use Rattle.k_points.specs.Points.{Grows, turn_point}
use Rattle.k_legal.specs.Runs.{entries_of}
use Rattle.k_plays.specs.Scripts.{ranged_programs}
use Rattle.k_invariant.specs.Invariant.{BoardHolds, IsOpeningBoard}
use Rattle.k_paired.specs.Pairs.{IsPair, IsStill}

-- Nobody has a context in hand but the carriers that there are.
abbrev pub HandsWithin : World → Type 0
HandsWithin w = (d : ℕ) → w.carriers ≤ d → (w.carrier d).hand ≡ None

-- Nobody has a start to come but the carriers that there are.
abbrev pub StartsWithin : World → Type 0
StartsWithin w = (d t : ℕ) → w.carriers ≤ d → (w.carrier d).starts t ≡ false

-- Each carrier has its own context on the board.
abbrev pub OwnsThere : Board → World → Type 0
OwnsThere b w = (d : ℕ) → d < w.carriers → (b.context (b.size + d)).at ≢ Nowhere

-- Whose removal is still to come has its context.
abbrev pub HasVictims : World → Type 0
HasVictims w = (who : ThreadId) → w.threads.victim ≡ Some who → is_absent (w.threads.condition who.number) ≡ false

-- A carrier that has a context in hand, and isn't switching, is counted as running a thread.
abbrev pub HandsCounted : World → Type 0
HandsCounted w = (c : ℕ) → c < w.carriers → (context : ContextName) → (w.carrier c).hand ≡ Some context →
    (w.carrier c).switching ≡ false → (w.carrier c).counted ≡ true

-- All holds of the board and of its history; and board and world are a pair, of the same moment.
pub record WholeHolds (script : Script) (b : Board) (w : World) (entries : List Entry) (k : KernelState) : Type 0 where
  pub holds : BoardHolds script b entries k
  pub pair : IsPair (ranged_programs script) b w
  pub hands : HandsWithin w
  pub starts : StartsWithin w
  pub owns : OwnsThere b w
  pub victims : HasVictims w
  pub counted : HandsCounted w

-- The board and the world in which the kernel begins to run a script.
pub record IsBeginning (script : Script) (b : Board) (o : Opening) : Type 0 where
  pub board : IsOpeningBoard script b
  pub world : IsOpening (ranged_programs script) b o
  pub low : (t : ℕ) → o.priority t < 64
  pub owns : (d : ℕ) → d < o.carriers → (b.context (b.size + d)).at ≡ Resting

-- ONE STEP OF A CARRIER

-- What one step of carrier `c` makes of the board.
pub data Step (g : Programs) (b : Board) (w : World) (c : ℕ) : Board → Type 0 where
  -- a turn of the thread's context that it has in hand
  runs : (i : ℕ) (b' : Board) (found : Finding) → IsAsked w c (OfThread i) → IsWait found.waits → IsFreeToRemove b w i b' →
      Turn g b i b' → Step g b w c b'
  -- a turn of the switch that it has in hand, its own or another carrier's
  switches : (d : ℕ) (s : SwitchCall) (p : SwitchAt) (r : Response) → IsAsked w c (OfCarrier d) →
      (b.context (b.size + d)).at ≡ InSwitch s p → is_going p ≡ true → Answers b (switch.ask_of s p) r →
      Step g b w c (switch_board b (b.size + d) (b.context (b.size + d)) s p r)
  -- it takes its own context, which has no switch: one begins
  begins_switch : (s : SwitchCall) → (w.carrier c).hand ≡ None →
      carrier_step w c FindsTaken ≡ begun_with w c (lowest (w.carrier c).starts 64) → (b.context (b.size + c)).at ≡ Resting →
      IsFrom s (w.carrier c) (lowest (w.carrier c).starts 64) →
      Step g b w c (placed b (b.size + c) (record (b.context (b.size + c)) { at = InSwitch s switch.AcquireReady }))
  -- it gives its own context back, and the switch is over
  ends_switch : (s : SwitchCall) (o : Switched) → (w.carrier c).hand ≡ Some (OfCarrier c) →
      (b.context (b.size + c)).at ≡ InSwitch s (switch.Finished o) →
      Step g b w c (placed b (b.size + c) (record (b.context (b.size + c)) { at = Resting }))
  -- it takes its goal's context, which sleeps: the thread wakes
  wakes : (i : ℕ) → (w.carrier c).hand ≡ None → carrier_step w c FindsTaken ≡ taken_asleep w c i → i < b.size →
      (b.context i).at ≡ Alone location.Asleep →
      Step g b w c (placed b i (record (b.context i) { at = Alone location.LookAgain }))
  -- it looks, takes or gives a context, or begins to switch, and the board stays as it is
  stays : ((context : ContextName) → IsAsked w c context → ⊥) → IsStill w (carrier_step w c FindsTaken) → Step g b w c b

-- the point of the step, where it is the turn of a thread's context
abbrev pub step_point : (g : Programs) (b : Board) (w : World) (c : ℕ) (b' : Board) → Step g b w c b' → Option Point
step_point g b w c _ (runs i b' found asked wait free t) = turn_point g b i b' t
step_point g b w c _ (switches d s p r asked at going an) = None
step_point g b w c _ (begins_switch s hand took at from) = None
step_point g b w c _ (ends_switch s o hand at) = None
step_point g b w c _ (wakes i hand took inside at) = None
step_point g b w c _ (stays nobody still) = None

-- What the step of the world is where a thread's context makes it: that of what was found, and its location grants it. Else it
-- isn't looked at.
abbrev pub IsStepOf : (g : Programs) (b : Board) (w : World) (c : ℕ) (b' : Board) → Step g b w c b' → ThreadStep → Type 0
IsStepOf g b w c _ (runs i b' found asked wait free t) step =
    IsFound found (is_again g b i b' t) step × Grants w i step
IsStepOf g b w c _ (switches d s p r asked at going an) step = Unit {0}
IsStepOf g b w c _ (begins_switch s hand took at from) step = Unit {0}
IsStepOf g b w c _ (ends_switch s o hand at) step = Unit {0}
IsStepOf g b w c _ (wakes i hand took inside at) step = Unit {0}
IsStepOf g b w c _ (stays nobody still) step = Unit {0}

-- After the step the same holds of the board and of the world that the carrier's step leaves. The history has grown by nothing,
-- or by the entry of the step's point, which the one-step kernel makes then.
pub record WholeGoesOn (script : Script) (b : Board) (w : World) (entries : List Entry) (k : KernelState) (c : ℕ) (b' : Board)
    (s : Step (ranged_programs script) b w c b') : Type 0 where
  pub step : ThreadStep
  pub kind : IsStepOf (ranged_programs script) b w c b' s step
  pub new : KernelState
  pub history : Grows (ranged_programs script) b k (step_point (ranged_programs script) b w c b' s) new b'
  pub whole : WholeHolds script b' (carrier_step w c step)
      (entries ++ entries_of b (step_point (ranged_programs script) b w c b' s)) new
