-- What of the kernel's words, contexts and carriers bears on who is on. All is decoded, and what is by number is a total map.
use Rattle.std.specs.Prelude.{ℕ, ◌≡◌, ◌<◌, ◌⊎◌, ◌==◌, Bool, true, false, ◌&&◌, ◌||◌, List, Option, Some, None, is_some}
use Rattle.std.specs.Prelude.{if◌then◌else◌}
use Rattle.k_ids.specs.declared.threads.ThreadId.{ThreadId}
use Rattle.k_ids.specs.declared.context_word.ContextWord.{ContextWord}
use Rattle.k_locks.specs.declared.locks.Lock.{Lock}
use Rattle.k_locks.specs.declared.locks.Lock.TheVariants as lock
use Rattle.k_model.specs.Maps.{upd}
use Rattle.k_tokens.specs.Maps.{id_at}

-- a context: that of a thread's number, or a carrier's own
pub data ContextName : Type 0 where
  OfThread : (number : ℕ) → ContextName
  OfCarrier : (number : ℕ) → ContextName

-- THREADS

-- the locks that a thread's context holds, at most one of each rank
pub record HeldLocks : Type 0 where
  pub table : Bool
  pub thread : Option ℕ  -- the number whose lock it is
  pub ready : Bool

abbrev pub no_locks : HeldLocks
no_locks = record { table = false; thread = None; ready = false }

abbrev pub holds_any : HeldLocks → Bool
holds_any held = (held.table || held.ready) || is_some held.thread

-- what a thread's context is at
pub data Condition : Type 0 where
  Absent : Condition  -- the number has no context
  Awake : Condition  -- it has a next step
  Asleep : Condition
  Ended : Condition
  Dead : Condition  -- it has found that its thread was destroyed

abbrev pub is_absent : Condition → Bool
is_absent Absent = true
is_absent Awake = false
is_absent Asleep = false
is_absent Ended = false
is_absent Dead = false

-- The state words and the contexts of the threads, and what the section is about that owns the table lock.
pub record Threads : Type 0 where
  pub version : ℕ → ℕ  -- in the state word
  pub present : ℕ → Bool  -- the state word isn't dead
  pub on : ℕ → Bool
  pub ended : ℕ → Bool
  pub priority : ℕ → ℕ
  pub condition : ℕ → Condition
  pub made : ℕ → ℕ  -- the version of the thread whose context it is
  pub locks : ℕ → HeldLocks
  pub push : ℕ → Option ThreadId  -- whom the context's section has turned on, and hasn't put into a ready list yet
  pub table : Option ℕ  -- whose the table lock is
  pub victim : Option ThreadId  -- who was killed, until its context is removed
  pub listed : Bool  -- the victim may still stand in a ready list
  pub making : Option ℕ  -- the number whose context was placed, until its thread is made

-- the thread that has the number, or had it last
abbrev pub thread_of : Threads → ℕ → ThreadId
thread_of threads number = id_at number (threads.version number)

-- the thread whose context the number has
abbrev pub owner_of : Threads → ℕ → ThreadId
owner_of threads number = id_at number (threads.made number)

abbrev pub is_present : Threads → ThreadId → Bool
is_present threads who = threads.present who.number && (threads.version who.number == who.version)

-- CARRIERS

-- where a carrier's own context stands in a switch
pub data Stage : Type 0 where
  NoSwitch : Stage
  AcquireReady : Stage
  LoadGoal : Stage
  LoadStart : Stage
  ReleaseReady : Stage
  Finished : Stage

abbrev pub has_switch : Stage → Bool
has_switch NoSwitch = false
has_switch AcquireReady = true
has_switch LoadGoal = true
has_switch LoadStart = true
has_switch ReleaseReady = true
has_switch Finished = true

abbrev pub holds_ready : Stage → Bool
holds_ready NoSwitch = false
holds_ready AcquireReady = false
holds_ready LoadGoal = true
holds_ready LoadStart = true
holds_ready ReleaseReady = true
holds_ready Finished = false

-- a switch that isn't finished
abbrev pub is_open : Stage → Bool
is_open NoSwitch = false
is_open AcquireReady = true
is_open LoadGoal = true
is_open LoadStart = true
is_open ReleaseReady = true
is_open Finished = false

abbrev pub is_finished : Stage → Bool
is_finished NoSwitch = false
is_finished AcquireReady = false
is_finished LoadGoal = false
is_finished LoadStart = false
is_finished ReleaseReady = false
is_finished Finished = true

-- A carrier's own context. A thread's word that was loaded told its priority, where it showed the thread there and on.
pub record OwnContext : Type 0 where
  pub stage : Stage
  pub goal : Option ThreadId  -- the thread that ran; in a finished switch the one that was taken
  pub counted : Bool  -- the carrier is counted as running a thread
  pub slice_ended : Bool
  pub start : Option ℕ  -- the number whose first thread is started
  pub goal_seen : Option ℕ
  pub start_seen : Option ℕ
  pub idle : Bool  -- nobody was taken, and no carrier runs a thread

-- whom a carrier helps, and which lock it waits for; none: any
pub record Help : Type 0 where
  pub context : ContextName
  pub lock : Option Lock

pub record Carrier : Type 0 where
  pub goal : Option ThreadId  -- the thread that it runs
  pub counted : Bool
  pub hand : Option ContextName  -- the context whose next step it makes
  pub help : Option Help
  pub switching : Bool
  pub looked : Option ContextWord  -- the word of the context that it takes next
  pub starts : ℕ → Bool  -- the numbers whose first thread is to be started
  pub slice : Bool  -- its slice of time has ended
  pub resched : Bool  -- a thread above its goal was put into a ready list
  pub putting : Bool  -- it is parked

-- an interrupt is pending: a start has come, its slice of time has ended, or a thread above its goal was pushed
abbrev pub HasInterrupt : Carrier → Type 0
HasInterrupt carrier = ((t : ℕ) × (t < 64) × (carrier.starts t ≡ true)) ⊎ (carrier.slice ≡ true) ⊎ (carrier.resched ≡ true)

-- THE WORLD

pub record World : Type 0 where
  pub threads : Threads
  pub lists : ℕ → List ThreadId  -- the ready lists, by priority
  pub running : ℕ  -- how many carriers run a thread
  pub ready_owner : Option ContextName  -- whose the ready lock is
  pub own : ℕ → OwnContext
  pub carrier : ℕ → Carrier
  pub held : ℕ → Option ℕ  -- in which carrier's hand a thread's context is
  pub held_own : ℕ → Option ℕ  -- the same of a carrier's own context
  pub unmade : ℕ → Bool  -- the numbers whose first thread waits for a start that hasn't come
  pub carriers : ℕ

abbrev pub with_threads : World → Threads → World
with_threads w threads = record w { threads = threads }

abbrev pub with_carrier : World → ℕ → Carrier → World
with_carrier w number carrier = record w { carrier = upd w.carrier number carrier }

-- A carrier's goal is that of its switch, where there is one; and so is its mark of being counted.
abbrev pub goal_of : OwnContext → Carrier → Option ThreadId
goal_of own carrier = if has_switch own.stage then own.goal else carrier.goal

abbrev pub is_counted : OwnContext → Carrier → Bool
is_counted own carrier = if has_switch own.stage then own.counted else carrier.counted

-- the number whose start is in a switch that isn't finished
abbrev pub starting : OwnContext → Option ℕ
starting own = if is_open own.stage then own.start else None

-- a finished switch that has found nobody to run
abbrev pub is_idle : OwnContext → Bool
is_idle own = is_finished own.stage && own.idle

abbrev pub is_lock_of : ℕ → Option ℕ → Bool
is_lock_of number None = false
is_lock_of number (Some other) = other == number

-- the context holds the lock, or any lock where none is named
abbrev pub holds : World → ContextName → Option Lock → Bool
holds w (OfThread t) None = holds_any (w.threads.locks t)
holds w (OfThread t) (Some lock.Table) = (w.threads.locks t).table
holds w (OfThread t) (Some (lock.Thread number)) = is_lock_of number (w.threads.locks t).thread
holds w (OfThread t) (Some lock.Ready) = (w.threads.locks t).ready
holds w (OfCarrier c) None = holds_ready (w.own c).stage
holds w (OfCarrier c) (Some lock.Table) = false
holds w (OfCarrier c) (Some (lock.Thread number)) = false
holds w (OfCarrier c) (Some lock.Ready) = holds_ready (w.own c).stage

-- whether an id is the one that is named
abbrev pub names : Option ThreadId → ThreadId → Bool
names None who = false
names (Some other) who = (other.number == who.number) && (other.version == who.version)
