-- What of a board bears on who is on: of each state word what is shown, of each context what its location is about.
use Rattle.std.specs.Prelude.{◌≡◌, ℕ, ◌+◌, ◌-◌, nat_lt, Bool, true, false}
use Rattle.std.specs.Prelude.{not, if◌then◌else◌, Option, Some, None, is_some, List, ◌∷◌}
use Rattle.k_ids.specs.declared.threads.ThreadId.{ThreadId}
use Rattle.k_ids.specs.declared.state_word.State.{State}
use Rattle.k_ids.specs.declared.state_word.State.TheVariants as state
use Rattle.k_ids.specs.declared.state_word.StateWord.{StateWord}
use Rattle.k_locks.specs.declared.locks.Lock.{Lock}
use Rattle.k_locks.specs.declared.locks.Lock.TheVariants as lock
use Rattle.k_locks.specs.Shown.{is_dead}
use Rattle.k_ipc.specs.declared.send.SendCall.{SendCall}
use Rattle.k_ipc.specs.declared.send.SendLocked.TheVariants as send_locked
use Rattle.k_ipc.specs.SendTable.{SendAt}
use Rattle.k_ipc.specs.SendTable as send
use Rattle.k_ipc.specs.declared.receive.ReceiveLocked.TheVariants as receive_locked
use Rattle.k_ipc.specs.declared.receive.ReceivePushing.TheVariants as receive_pushing
use Rattle.k_ipc.specs.ReceiveTable.{ReceiveAt, stays_out}
use Rattle.k_ipc.specs.ReceiveTable as receive
use Rattle.k_senders.specs.Entries.{sender_of}
use Rattle.k_threads.specs.declared.create.CreateLocked.TheVariants as create_locked
use Rattle.k_threads.specs.CreateTable.{CreateAt}
use Rattle.k_threads.specs.CreateTable as create
use Rattle.k_threads.specs.declared.destroy.DestroyLocked.TheVariants as destroy_locked
use Rattle.k_threads.specs.declared.destroy.DestroyVictim.TheVariants as victim
use Rattle.k_threads.specs.declared.destroy.DestroyVisit.TheVariants as visit
use Rattle.k_threads.specs.declared.destroy.DestroyPushing.TheVariants as destroy_pushing
use Rattle.k_threads.specs.DestroyTable.{DestroyAt}
use Rattle.k_threads.specs.DestroyTable as destroy
use Rattle.k_threads.specs.Words.{thread_at}
use Rattle.k_caller.specs.declared.thread.ThreadLocation.{ThreadLocation}
use Rattle.k_caller.specs.declared.thread.ThreadLocation.TheVariants as location
use Rattle.k_board.specs.Boards.{At, Alone, InSend, InReceive, InCreate, InDestroy, InSwitch, Resting, Coming, Nowhere, Board}
use Rattle.k_good.specs.Locks.{locks_at}
use Rattle.k_good.specs.Numbers.{is_left}
use Rattle.k_tokens.specs.World.{ContextName, OfThread, OfCarrier, HeldLocks, no_locks, Condition}
use Rattle.k_tokens.specs.World.{Absent, Awake, Asleep, Ended, Dead, Threads}
use Rattle.k_tokens.specs.Views.{by_owner}

-- OF A WORD

-- the thread's program is over
abbrev pub is_ended : State → Bool
is_ended state.Ended = true
is_ended state.Dead = false
is_ended (state.Run result) = false
is_ended (state.Sending to joined) = false
is_ended (state.Receiving from) = false
is_ended state.Picking = false

-- what a state word shows of its number
pub record Sight : Type 0 where
  pub version : ℕ
  pub present : Bool
  pub on : Bool
  pub ended : Bool
  pub priority : ℕ

abbrev pub sight_of : StateWord → Sight
sight_of w = record {
  version = w.version;
  present = not (is_dead w);
  on = w.on;
  ended = is_ended w.state;
  priority = w.priority;
}

-- OF A LOCATION

-- the number whose thread lock it is
abbrev pub number_in : Option Lock → Option ℕ
number_in (Some (lock.Thread number)) = Some number
number_in (Some lock.Table) = None
number_in (Some lock.Ready) = None
number_in None = None

-- locks by rank
abbrev pub held_of : List (Option Lock) → HeldLocks
held_of (t ∷ n ∷ r ∷ more) = record { table = is_some t; thread = number_in n; ready = is_some r }
held_of locks = no_locks

-- what a location is about
pub record Look : Type 0 where
  pub condition : Condition
  pub is_coming : Bool  -- its thread isn't made yet
  pub locks : HeldLocks
  pub push : Option ThreadId  -- whom it has turned on, and hasn't put into a ready list yet
  pub victim : Option ThreadId  -- whom it has killed, until the context is removed
  pub listed : Bool  -- the victim may still stand in a ready list
  pub making : Option ℕ  -- the number whose context it has placed, until the thread is made

-- a context that is about nothing
abbrev pub plain : Condition → Look
plain condition = record {
  condition = condition;
  is_coming = false;
  locks = no_locks;
  push = None;
  victim = None;
  listed = false;
  making = None;
}

-- a thread outside of any section
abbrev pub alone_condition : ThreadLocation → Condition
alone_condition location.Asleep = Asleep
alone_condition location.Ended = Ended
alone_condition location.Dead = Dead
alone_condition p = Awake

-- The receiver was off, and has its message.
abbrev pub send_push : SendCall → SendAt → Option ThreadId
send_push c (send.Locked (send_locked.AcquireReady priority)) = Some c.to
send_push c (send.Pushing p) = Some c.to
send_push c p = None

-- The sender was off, and its message is taken; one whose send was joined stays as it was.
abbrev pub receive_push : ReceiveAt → Option ThreadId
receive_push (receive.Locked (receive_locked.AcquireReady e)) = Some (sender_of e)
receive_push (receive.Pushing (receive_pushing.LoadFreed e)) = Some (sender_of e)
receive_push (receive.Pushing (receive_pushing.PushFreed e w)) = Some (sender_of e)
receive_push (receive.Locked (receive_locked.EndPick e w)) = if stays_out w then None else Some (sender_of e)
receive_push p = None

abbrev pub create_push : CreateAt → Option ThreadId
create_push (create.Locked (create_locked.AcquireReady id)) = Some id
create_push (create.PushCreated id) = Some id
create_push p = None

-- a context is placed, and its thread isn't made
abbrev pub create_making : CreateAt → Option ℕ
create_making (create.Locked (create_locked.CommitCreate id)) = Some id.number
create_making p = None

-- The freed thread was off.
abbrev pub destroy_push : DestroyAt → Option ThreadId
destroy_push (destroy.Victim (victim.AcquireReadyForSender sender seen)) = Some (thread_at sender seen)
destroy_push (destroy.Pushing (destroy_pushing.PushSender sender seen)) = Some (thread_at sender seen)
destroy_push (destroy.Visit (visit.AcquireReadyForVisited visited seen)) = Some (thread_at visited seen)
destroy_push (destroy.Pushing (destroy_pushing.PushVisited visited seen)) = Some (thread_at visited seen)
destroy_push p = None

-- the victim is dead, and isn't taken out of the ready lists yet
abbrev pub is_listed : DestroyAt → Bool
is_listed (destroy.Locked destroy_locked.RemoveContext) = false
is_listed p = is_left p

-- Of a section its locks, and what it does to who is on; a carrier's own context is none of a thread's.
abbrev pub look_at : At → Look
look_at (Alone p) = plain (alone_condition p)
look_at (InSend c p) = record (plain Awake) { locks = held_of (locks_at (InSend c p)); push = send_push c p }
look_at (InReceive c p) = record (plain Awake) { locks = held_of (locks_at (InReceive c p)); push = receive_push p }
look_at (InCreate c p) = record (plain Awake) {
  locks = held_of (locks_at (InCreate c p));
  push = create_push p;
  making = create_making p;
}
look_at (InDestroy c p) = record (plain Awake) {
  locks = held_of (locks_at (InDestroy c p));
  push = destroy_push p;
  victim = if is_left p then Some c.who else None;
  listed = is_listed p;
}
look_at Coming = record (plain Awake) { is_coming = true }
look_at (InSwitch c p) = plain Absent
look_at Resting = plain Absent
look_at Nowhere = plain Absent

-- OF A BOARD

-- the version of the thread whose context it is: a thread that isn't made yet has the next one
abbrev pub made_by : Bool → ℕ → ℕ
made_by coming version = if coming then version + 1 else version

-- The table lock's owner says who is killed, and who is made. A board doesn't keep the priority of a thread that was destroyed,
-- so the priorities are told apart.
abbrev pub threads_by : (ℕ → ℕ) → (ℕ → Sight) → (ℕ → Look) → Option ℕ → Threads
threads_by priorities sights looks table = record {
  version = λ t. (sights t).version;
  present = λ t. (sights t).present;
  on = λ t. (sights t).on;
  ended = λ t. (sights t).ended;
  priority = priorities;
  condition = λ t. (looks t).condition;
  made = λ t. made_by (looks t).is_coming (sights t).version;
  locks = λ t. (looks t).locks;
  push = λ t. (looks t).push;
  table = table;
  victim = by_owner None (λ (l : Look). l.victim) looks table;
  listed = by_owner false (λ (l : Look). l.listed) looks table;
  making = by_owner None (λ (l : Look). l.making) looks table;
}

abbrev pub sights_of : Board → ℕ → Sight
sights_of b t = sight_of (b.seen t).word

abbrev pub looks_of : Board → ℕ → Look
looks_of b t = look_at (b.context t).at

abbrev pub threads_of : (ℕ → ℕ) → Board → Threads
threads_of priorities b = threads_by priorities (sights_of b) (looks_of b) b.table

-- of threads that are there
abbrev pub PrioritiesAre : (ℕ → ℕ) → (ℕ → Sight) → Type 0
PrioritiesAre priorities sights = (t : ℕ) → (sights t).present ≡ true → priorities t ≡ (sights t).priority

-- Contexts of threads come first, one for each number of the table; the others are the carriers' own.
abbrev pub name_of : ℕ → ℕ → ContextName
name_of size number = if nat_lt number size then OfThread number else OfCarrier (number - size)

abbrev pub name_by : ℕ → Option ℕ → Option ContextName
name_by size None = None
name_by size (Some number) = Some (name_of size number)
