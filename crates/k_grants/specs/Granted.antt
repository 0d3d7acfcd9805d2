-- What a turn of a thread's context on a board is, in the terms of who is on.
use Rattle.std.specs.Prelude.{◌≡◌, ℕ, Bool, true, false, length, None}
use Rattle.k_ids.specs.declared.threads.ThreadId.{ThreadId}
use Rattle.k_ready.specs.Lists.{list_of}
use Rattle.k_threads.specs.declared.destroy.DestroyCall.{DestroyCall}
use Rattle.k_threads.specs.declared.destroy.DestroyLocked.TheVariants as destroy_locked
use Rattle.k_threads.specs.DestroyTable as destroy
use Rattle.k_board.specs.Words.{Programs}
use Rattle.k_board.specs.Boards.{InDestroy, Nowhere, Board}
use Rattle.k_good.specs.Good.{IsGood}
use Rattle.k_good.specs.Ranges.{IsWithin, NamesFit}
use Rattle.k_tokens.specs.World.{World}
use Rattle.k_tokens.specs.Good.{Holder, Parts}
use Rattle.k_tokens.specs.Grants.{Grants, IsRun}
use Rattle.k_tokens.specs.Steps.{ThreadStep, FindsOwned, FindsTaken, Pushes, after_step}
use Rattle.k_locks.specs.Asks as asks
use Rattle.k_board.specs.Turns.{Turn, sends, receives, creates, destroys, goes_alone}
use Rattle.k_board.specs.Turns.{begins, turns_to_work, wakes, switches, begins_switch, ends_switch}
use Rattle.k_grants.specs.Views.{PrioritiesAre, name_by, sights_of, threads_of}
use Rattle.k_grants.specs.Pushes.{PushesHold}

-- The world has the board's threads, its ready lists, and the owner of its ready lock. Where carriers are is no matter of a
-- board.
pub record Agrees (b : Board) (w : World) : Type 0 where
  pub threads : w.threads ≡ threads_of w.threads.priority b
  pub priorities : PrioritiesAre w.threads.priority (sights_of b)
  pub ready : w.ready_owner ≡ name_by b.size b.ready
  pub lists : w.lists ≡ list_of b.lists.lists
  pub whole : length b.lists.lists ≡ 64
  pub running : w.running ≡ b.lists.running

-- A good board and a good world agree, and carrier `c` runs the context of number `i`.
pub record MayTurn (g : Programs) (b : Board) (w : World) (c i : ℕ) : Type 0 where
  pub good : IsGood g b
  pub within : IsWithin b
  pub names : NamesFit g b.size
  pub pushes : PushesHold b
  pub holder : ThreadId → Holder
  pub parts : Parts w holder
  pub run : IsRun w c i holder
  pub agrees : Agrees b w

-- What a carrier alone gives: a context is removed out of no hand.
abbrev pub IsFreeToRemove : Board → World → ℕ → Board → Type 0
IsFreeToRemove b w i b' = (c : DestroyCall) → (b.context i).at ≡ InDestroy c (destroy.Locked destroy_locked.RemoveContext) →
    (b'.context c.who.number).at ≡ Nowhere → w.held c.who.number ≡ None

-- What the carrier finds besides: whether the pushed thread's priority is above that of its goal; and by which step a context
-- waits, where a lock is owned, or a context can't be removed yet.
pub record Finding : Type 0 where
  pub above : Bool
  pub waits : ThreadStep

-- the steps by which a context waits
abbrev pub IsWait : ThreadStep → Type 0
IsWait (FindsOwned context wanted) = Unit {0}
IsWait FindsTaken = Unit {0}
IsWait step = ⊥

-- A step that goes on; where it pushes a thread, this is whether its priority is above that of the carrier's goal.
abbrev pub IsMade : Bool → ThreadStep → Type 0
IsMade above (FindsOwned context wanted) = ⊥
IsMade above FindsTaken = ⊥
IsMade above (Pushes seen held higher) = higher ≡ above
IsMade above step = Unit {0}

-- The context waits where the same step has to be made again, and nowhere else.
abbrev pub IsFound : Finding → (again : Bool) → ThreadStep → Type 0
IsFound found true step = step ≡ found.waits
IsFound found false step = IsMade found.above step

-- whether the turn leaves the context with the same step to make
abbrev pub is_again : (g : Programs) (b : Board) (i : ℕ) (b' : Board) → Turn g b i b' → Bool
is_again g b i _ (sends c p r at an) = asks.is_again r
is_again g b i _ (receives c p r at an) = asks.is_again r
is_again g b i _ (creates c p r at an) = asks.is_again r
is_again g b i _ (destroys c p r at an) = asks.is_again r
is_again g b i _ (goes_alone p r at can an) = asks.is_again r
is_again g b i _ (begins l f at e) = false
is_again g b i _ (turns_to_work l count at e) = false
is_again g b i _ (wakes at) = false
is_again g b i _ (switches c p r at going an) = asks.is_again r
is_again g b i _ (begins_switch c at) = false
is_again g b i _ (ends_switch c s at) = false

-- The turn is one step of the context's thread, which its location grants; and board and world agree after it.
pub record IsGranted (b' : Board) (w : World) (c i : ℕ) (found : Finding) (again : Bool) : Type 0 where
  pub step : ThreadStep
  pub kind : IsFound found again step
  pub grants : Grants w i step
  pub agrees : Agrees b' (after_step w c i step)
