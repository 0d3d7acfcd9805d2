-- What the good world says, without the pointer.
use Rattle.std.specs.Prelude.{◌≡◌, ◌≢◌, ℕ, ◌≤◌, true, false, ◌⊎◌, [], Some, None}
use Rattle.k_ids.specs.declared.threads.ThreadId.{ThreadId}
use Rattle.k_model.specs.Maps.{count}
use Rattle.k_tokens.specs.Maps.{times}
use Rattle.k_tokens.specs.World.{holds_any, Absent, Asleep, Ended, thread_of, is_open, World, goal_of, is_counted, starting}
use Rattle.k_tokens.specs.World.{is_idle}
use Rattle.k_tokens.specs.Good.{Holder, Nobody, ReadyList, GoalOf, PushOf, StartToCome, StartOf, SwitchOf, IsListable}
use Rattle.k_tokens.specs.Good.{counted_in}

-- the list, goal, push or start of this name has the thread
abbrev pub IsHeld : World → ThreadId → Holder → Type 0
IsHeld w who Nobody = ⊥
IsHeld w who (ReadyList p) = 1 ≤ times who (w.lists p)
IsHeld w who (GoalOf c) = goal_of (w.own c) (w.carrier c) ≡ Some who
IsHeld w who (PushOf t) = w.threads.push t ≡ Some who
IsHeld w who StartToCome = (who.version ≡ 1) × (w.unmade who.number ≡ true)
IsHeld w who (StartOf c) = (who.version ≡ 1) × ((w.carrier c).starts who.number ≡ true)
IsHeld w who (SwitchOf c) = (who.version ≡ 1) × (starting (w.own c) ≡ Some who.number)

-- a thread that is there is on exactly where one of them has it, and no two have it, nor a list twice
pub record OneHolder (w : World) : Type 0 where
  pub on : (t : ℕ) → w.threads.present t ≡ true → w.threads.on t ≡ true → (h : Holder) × IsHeld w (thread_of w.threads t) h
  pub held : (t : ℕ) (h : Holder) → w.threads.present t ≡ true → IsHeld w (thread_of w.threads t) h → w.threads.on t ≡ true
  -- these hold of threads that were destroyed too
  pub once : (who : ThreadId) (h j : Holder) → IsHeld w who h → IsHeld w who j → h ≡ j
  pub listed_once : (who : ThreadId) (p : ℕ) → times who (w.lists p) ≤ 1

pub record ReadyLists (w : World) : Type 0 where
  pub running : w.running ≡ count (counted_in w.own w.carrier) w.carriers
  pub counted : (c : ℕ) (who : ThreadId) → goal_of (w.own c) (w.carrier c) ≡ Some who → is_counted (w.own c) (w.carrier c) ≡ true
  -- a switch that isn't finished has the goal and the mark of its carrier
  pub unfinished : (c : ℕ) → is_open (w.own c).stage ≡ true
      → ((w.own c).goal ≡ (w.carrier c).goal) × ((w.own c).counted ≡ (w.carrier c).counted)
  pub idle : (c p : ℕ) → is_idle (w.own c) ≡ true → w.running ≡ 0 → w.lists p ≡ []
  pub idle_goal : (c : ℕ) → is_idle (w.own c) ≡ true → (w.own c).goal ≡ None
  pub listed : (who : ThreadId) (p : ℕ) → 1 ≤ times who (w.lists p) → IsListable w.threads who
  -- so `running` can fall by the carrier of a switch that isn't finished, if it is counted
  pub falls : (c : ℕ) → (w.own c).counted ≡ true → is_open (w.own c).stage ≡ true → 1 ≤ w.running

-- no start is to come
pub record NothingToCome (w : World) : Type 0 where
  pub made : (t : ℕ) → w.unmade t ≡ false
  pub taken : (c t : ℕ) → (w.carrier c).starts t ≡ false
  pub begun : (c : ℕ) → starting (w.own c) ≡ None

-- Nobody can go on: each thread that is there is off, and asleep or at its end, no context holds a lock, and nobody else has one.
pub record AtRest (w : World) : Type 0 where
  pub off : (t : ℕ) → w.threads.present t ≡ true → w.threads.on t ≡ false
  pub at_rest : (t : ℕ) → w.threads.present t ≡ true → (w.threads.condition t ≡ Asleep) ⊎ (w.threads.condition t ≡ Ended)
  pub free : (t : ℕ) → holds_any (w.threads.locks t) ≡ false
  pub alive : (t : ℕ) → w.threads.condition t ≢ Absent → w.threads.present t ≡ true
