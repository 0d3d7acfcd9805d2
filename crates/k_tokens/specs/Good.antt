-- The good world: who is on stands in exactly one place, and the carriers run nobody but who may be run. Each part is a record of
-- its own, over the maps that it reads.
use Rattle.std.specs.Prelude.{◌≡◌, ◌≢◌, ℕ, ◌+◌, ◌<◌, ◌≤◌, ◌==◌, Bool, true, false, ◌⊎◌, List, [], Option, Some, None, is_some}
use Rattle.std.specs.Prelude.{if◌then◌else◌}
use Rattle.k_ids.specs.declared.threads.ThreadId.{ThreadId}
use Rattle.k_ids.specs.declared.context_word.ContextWord.{ContextWord}
use Rattle.k_ids.specs.declared.context_word.ContextWord.TheVariants.{Empty, Clean, Holds, Taken}
use Rattle.k_locks.specs.declared.locks.Lock.TheVariants as lock
use Rattle.k_model.specs.Maps.{count}
use Rattle.k_tokens.specs.Maps.{id_at, times}
use Rattle.k_tokens.specs.World.{ContextName, OfThread, OfCarrier, HeldLocks, holds_any, Condition, Absent, Awake, Asleep}
use Rattle.k_tokens.specs.World.{Ended, Dead, Threads, thread_of, owner_of, is_present, Stage, NoSwitch, AcquireReady, LoadGoal}
use Rattle.k_tokens.specs.World.{LoadStart, ReleaseReady, Finished, OwnContext, has_switch, holds_ready, is_open, Help, Carrier}
use Rattle.k_tokens.specs.World.{HasInterrupt, World, goal_of, is_counted, starting, is_idle}

-- WHO HAS A THREAD

-- The one that has a thread which is on. It speaks of ids, so of each thread that ever was: one that was destroyed stands in one
-- place at most, and a thread of a version still to come stands nowhere.
pub data Holder : Type 0 where
  Nobody : Holder
  ReadyList : (priority : ℕ) → Holder
  GoalOf : (carrier : ℕ) → Holder  -- the goal of its switch, where its own context has one
  PushOf : (number : ℕ) → Holder  -- the section of this number's context has turned it on, and will push it
  StartToCome : Holder  -- its start hasn't come
  StartOf : (carrier : ℕ) → Holder  -- its start has come to this carrier
  SwitchOf : (carrier : ℕ) → Holder  -- its start is in this carrier's switch

abbrev pub is_somewhere : Holder → Bool
is_somewhere Nobody = false
is_somewhere (ReadyList priority) = true
is_somewhere (GoalOf carrier) = true
is_somewhere (PushOf number) = true
is_somewhere StartToCome = true
is_somewhere (StartOf carrier) = true
is_somewhere (SwitchOf carrier) = true

-- it is on its way into a ready list, and nobody runs it
abbrev pub is_coming : Holder → Bool
is_coming Nobody = false
is_coming (ReadyList priority) = false
is_coming (GoalOf carrier) = false
is_coming (PushOf number) = true
is_coming StartToCome = true
is_coming (StartOf carrier) = true
is_coming (SwitchOf carrier) = true

-- how often it stands in the list of a priority
abbrev pub times_in : ℕ → Holder → ℕ
times_in priority Nobody = 0
times_in priority (ReadyList other) = if other == priority then 1 else 0
times_in priority (GoalOf carrier) = 0
times_in priority (PushOf number) = 0
times_in priority StartToCome = 0
times_in priority (StartOf carrier) = 0
times_in priority (SwitchOf carrier) = 0

-- Every list, goal, push and start has exactly the threads whose holder it is. The maps are the ready lists, each carrier's goal,
-- each number's push, the starts still to come, each carrier's starts, and the start in each carrier's switch.
pub record Tokens (holder : ThreadId → Holder) (lists : ℕ → List ThreadId) (goals pushes : ℕ → Option ThreadId)
    (awaited : ℕ → Bool) (come : ℕ → ℕ → Bool) (entering : ℕ → Option ℕ) : Type 0 where
  pub list : (p : ℕ) (who : ThreadId) → times who (lists p) ≡ times_in p (holder who)
  pub goal : (c : ℕ) (who : ThreadId) → goals c ≡ Some who → holder who ≡ GoalOf c
  pub goal_is : (c : ℕ) (who : ThreadId) → holder who ≡ GoalOf c → goals c ≡ Some who
  pub push : (t : ℕ) (who : ThreadId) → pushes t ≡ Some who → holder who ≡ PushOf t
  pub push_is : (t : ℕ) (who : ThreadId) → holder who ≡ PushOf t → pushes t ≡ Some who
  pub unmade : (t : ℕ) → awaited t ≡ true → holder (id_at t 1) ≡ StartToCome
  pub unmade_is : (who : ThreadId) → holder who ≡ StartToCome → (who.version ≡ 1) × (awaited who.number ≡ true)
  pub starts : (c t : ℕ) → come c t ≡ true → holder (id_at t 1) ≡ StartOf c
  pub starts_is : (c : ℕ) (who : ThreadId) → holder who ≡ StartOf c → (who.version ≡ 1) × (come c who.number ≡ true)
  pub begun : (c t : ℕ) → entering c ≡ Some t → holder (id_at t 1) ≡ SwitchOf c
  pub begun_is : (c : ℕ) (who : ThreadId) → holder who ≡ SwitchOf c → (who.version ≡ 1) × (entering c ≡ Some who.number)

-- WHAT HOLDS OF THE THREADS

-- it may stand in a ready list: it is there, or it is the victim of a destroy that hasn't taken it out of the lists yet
abbrev pub IsListable : Threads → ThreadId → Type 0
IsListable threads who = (is_present threads who ≡ true) ⊎ ((threads.victim ≡ Some who) × (threads.listed ≡ true))

-- the number is one whose context was placed for a thread to be made
abbrev pub IsMaking : Threads → ℕ → Type 0
IsMaking threads t = (is_some threads.table ≡ true) × (threads.present t ≡ false) × (threads.made t ≡ threads.version t + 1)
    × (holds_any (threads.locks t) ≡ false) × (threads.condition t ≡ Awake)

-- the thread was killed, and is the last of its number
abbrev pub IsVictim : Threads → ThreadId → Type 0
IsVictim threads who = (is_some threads.table ≡ true) × (threads.present who.number ≡ false)
    × (threads.version who.number ≡ who.version) × (threads.made who.number ≡ who.version) × (threads.making ≡ None)

pub record ThreadFacts (threads : Threads) (holder : ThreadId → Holder) : Type 0 where
  pub on : (t : ℕ) → threads.present t ≡ true → threads.on t ≡ is_somewhere (holder (thread_of threads t))
  -- a thread still to come stands nowhere
  pub old : (who : ThreadId) → threads.version who.number < who.version → holder who ≡ Nobody
  pub listed : (p : ℕ) (who : ThreadId) → holder who ≡ ReadyList p → IsListable threads who
  -- who is off is asleep or at its end
  pub resting : (t : ℕ) → threads.present t ≡ true → threads.on t ≡ false
      → (threads.condition t ≡ Asleep) ⊎ (threads.condition t ≡ Ended)
  pub ended : (t : ℕ) → threads.condition t ≡ Ended → holder (owner_of threads t) ≡ Nobody
  pub ended_word : (t : ℕ) → threads.present t ≡ true → threads.condition t ≡ Ended → threads.ended t ≡ true
  pub dead : (t : ℕ) → threads.condition t ≡ Dead → threads.present t ≡ false
  -- A thread that is there has its context. Any other context is that of the victim, or of the thread to be made.
  pub here : (t : ℕ) → threads.present t ≡ true → (threads.condition t ≢ Absent) × (threads.made t ≡ threads.version t)
  pub stays : (t : ℕ) → threads.present t ≡ false → threads.condition t ≢ Absent
      → (threads.victim ≡ Some (thread_of threads t)) ⊎ (threads.making ≡ Some t)
  -- who is on its way into a list holds no lock
  pub calm : (t : ℕ) → holds_any (threads.locks t) ≡ true → is_coming (holder (owner_of threads t)) ≡ false
  pub pushing : (t : ℕ) (who : ThreadId) → threads.push t ≡ Some who → holds_any (threads.locks t) ≡ true
  pub quiet : (t : ℕ) → threads.condition t ≢ Awake → holds_any (threads.locks t) ≡ false
  pub table : (t : ℕ) → (threads.locks t).table ≡ true → threads.table ≡ Some t
  pub table_is : (t : ℕ) → threads.table ≡ Some t → ((threads.locks t).table ≡ true) × (threads.present t ≡ true)
  pub victim : (who : ThreadId) → threads.victim ≡ Some who → IsVictim threads who
  pub making : (t : ℕ) → threads.making ≡ Some t → IsMaking threads t
  pub priority : (t : ℕ) → threads.priority t < 64

-- WHAT A SWITCH KNOWS

-- what a load of a thread's word has told, as far as it still holds
pub record Told (threads : Threads) (who : ThreadId) (seen : Option ℕ) : Type 0 where
  pub shown : (p : ℕ) → seen ≡ Some p → (p < 64) × IsListable threads who
  pub absent : seen ≡ None → is_present threads who ≡ false

abbrev pub knows_goal : Stage → Bool
knows_goal NoSwitch = false
knows_goal AcquireReady = false
knows_goal LoadGoal = false
knows_goal LoadStart = true
knows_goal ReleaseReady = true
knows_goal Finished = false

abbrev pub knows_start : Stage → Bool
knows_start NoSwitch = false
knows_start AcquireReady = false
knows_start LoadGoal = false
knows_start LoadStart = false
knows_start ReleaseReady = true
knows_start Finished = false

pub record SwitchFacts (threads : Threads) (own : OwnContext) : Type 0 where
  pub goal : (who : ThreadId) → knows_goal own.stage ≡ true → own.goal ≡ Some who → Told threads who own.goal_seen
  pub start : (t : ℕ) → knows_start own.stage ≡ true → own.start ≡ Some t → Told threads (id_at t 1) own.start_seen

-- WHOSE THE READY LOCK IS

pub record ReadyFacts (locks : ℕ → HeldLocks) (owns : ℕ → OwnContext) (owner : Option ContextName) : Type 0 where
  pub thread : (t : ℕ) → (locks t).ready ≡ true → owner ≡ Some (OfThread t)
  pub thread_is : (t : ℕ) → owner ≡ Some (OfThread t) → (locks t).ready ≡ true
  pub own : (c : ℕ) → holds_ready (owns c).stage ≡ true → owner ≡ Some (OfCarrier c)
  pub own_is : (c : ℕ) → owner ≡ Some (OfCarrier c) → holds_ready (owns c).stage ≡ true

-- WHO RUNS

abbrev pub counted_in : (ℕ → OwnContext) → (ℕ → Carrier) → ℕ → Bool
counted_in owns carriers c = is_counted (owns c) (carriers c)

pub record RunFacts (lists : ℕ → List ThreadId) (sum size : ℕ) (own : ℕ → OwnContext) (carrier : ℕ → Carrier) : Type 0 where
  pub running : sum ≡ count (counted_in own carrier) size
  -- numbers that no carrier has are at rest
  pub beyond : (c : ℕ) → size ≤ c → (has_switch (own c).stage ≡ false) × ((carrier c).goal ≡ None)
  pub high : (p : ℕ) → 64 ≤ p → lists p ≡ []
  pub idle : (c p : ℕ) → is_idle (own c) ≡ true → sum ≡ 0 → lists p ≡ []

-- WHAT HOLDS OF A CARRIER

-- The word that was looked at is clean or holds: of a context that is helped it holds, and of a goal's it has the goal's version.
abbrev pub IsLooked : Option Help → Bool → Option ThreadId → ContextWord → Type 0
IsLooked help switching goal Empty = ⊥
IsLooked help switching goal (Taken c v) = ⊥
IsLooked None switching goal (Clean v) = (who : ThreadId) → switching ≡ false → goal ≡ Some who → v ≡ who.version
IsLooked None switching goal (Holds v) = (who : ThreadId) → switching ≡ false → goal ≡ Some who → v ≡ who.version
IsLooked (Some help) switching goal (Clean v) = ⊥
IsLooked (Some help) switching goal (Holds v) = Unit {0}

pub record CarrierFacts (condition : ℕ → Condition) (made : ℕ → ℕ) (number : ℕ) (carrier : Carrier) (own : OwnContext)
    : Type 0 where
  -- who has a goal is counted
  pub counted : (who : ThreadId) → goal_of own carrier ≡ Some who → is_counted own carrier ≡ true
  -- a switch that isn't finished has the goal and the mark of its carrier
  pub same : is_open own.stage ≡ true → (own.goal ≡ carrier.goal) × (own.counted ≡ carrier.counted)
  pub idle : is_idle own ≡ true → own.goal ≡ None
  -- its own context has a switch only while it is switching
  pub switch_own : has_switch own.stage ≡ true → carrier.switching ≡ true
  pub switch_help : (help : Help) → carrier.switching ≡ true → carrier.help ≡ Some help → help.lock ≡ Some lock.Ready
  pub switch_hand : carrier.hand ≡ Some (OfCarrier number) → has_switch own.stage ≡ true
  -- it begins to switch for a reason
  pub begins : carrier.switching ≡ true → has_switch own.stage ≡ false → HasInterrupt carrier ⊎ (carrier.goal ≡ None)
  -- while it switches it has a thread's context only to help, and another carrier's own at any time only to help
  pub switch_thread : (t : ℕ) → carrier.switching ≡ true → carrier.hand ≡ Some (OfThread t) → is_some carrier.help ≡ true
  pub foreign : (c : ℕ) → carrier.hand ≡ Some (OfCarrier c) → c ≢ number → is_some carrier.help ≡ true
  pub hand_looked : (context : ContextName) → carrier.hand ≡ Some context → carrier.looked ≡ None
  pub looked : (w : ContextWord) → carrier.looked ≡ Some w → IsLooked carrier.help carrier.switching carrier.goal w
  pub awake : (t : ℕ) → carrier.switching ≡ false → carrier.hand ≡ Some (OfThread t) → carrier.goal ≡ Some (id_at t (made t))
      → condition t ≡ Awake

-- each context is in its slot, or in one hand
pub record HandFacts (held held_own : ℕ → Option ℕ) (carrier : ℕ → Carrier) : Type 0 where
  pub thread : (c t : ℕ) → (carrier c).hand ≡ Some (OfThread t) → held t ≡ Some c
  pub thread_is : (c t : ℕ) → held t ≡ Some c → (carrier c).hand ≡ Some (OfThread t)
  pub own : (c d : ℕ) → (carrier c).hand ≡ Some (OfCarrier d) → held_own d ≡ Some c
  pub own_is : (c d : ℕ) → held_own d ≡ Some c → (carrier c).hand ≡ Some (OfCarrier d)

-- THE GOOD WORLD

abbrev pub goals_in : (ℕ → OwnContext) → (ℕ → Carrier) → ℕ → Option ThreadId
goals_in owns carriers c = goal_of (owns c) (carriers c)

abbrev pub come_in : (ℕ → Carrier) → ℕ → ℕ → Bool
come_in carriers c = (carriers c).starts

abbrev pub starting_in : (ℕ → OwnContext) → ℕ → Option ℕ
starting_in owns c = starting (owns c)

abbrev pub TokensOf : World → (ThreadId → Holder) → Type 0
TokensOf w holder =
    Tokens holder w.lists (goals_in w.own w.carrier) w.threads.push w.unmade (come_in w.carrier) (starting_in w.own)

abbrev pub FactsOf : World → ℕ → Type 0
FactsOf w c = CarrierFacts w.threads.condition w.threads.made c (w.carrier c) (w.own c)

pub record Parts (w : World) (holder : ThreadId → Holder) : Type 0 where
  pub tokens : TokensOf w holder
  pub threads : ThreadFacts w.threads holder
  pub switches : (c : ℕ) → SwitchFacts w.threads (w.own c)
  pub ready : ReadyFacts w.threads.locks w.own w.ready_owner
  pub runs : RunFacts w.lists w.running w.carriers w.own w.carrier
  pub carriers : (c : ℕ) → FactsOf w c
  pub hands : HandFacts w.held w.held_own w.carrier

abbrev pub IsGood : World → Type 0
IsGood w = (holder : ThreadId → Holder) × Parts w holder
