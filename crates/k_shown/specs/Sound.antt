-- What holds of a memory while no section is half done.
use Rattle.std.specs.Prelude.{ℕ, ◌≡◌, ◌≢◌, ◌≤◌, ◌<◌, true, false, not, Some, length}
use Rattle.std.specs.List.{AllByRecursion}
use Rattle.k_ids.specs.declared.threads.ThreadId.{ThreadId}
use Rattle.k_ids.specs.declared.threads.Status.TheVariants as status
use Rattle.k_ids.specs.declared.state_word.Result4.{Result4}
use Rattle.k_ids.specs.declared.state_word.Result4.TheVariants as result4
use Rattle.k_ids.specs.declared.state_word.State.TheVariants as state
use Rattle.k_ids.specs.declared.state_word.StateWord.{StateWord}
use Rattle.k_ids.specs.StateWords.{IsStateWord}
use Rattle.k_senders.specs.Entries.{IsEntry}
use Rattle.k_ready.specs.Lists.{IsOnceEach, list_of}
use Rattle.k_ids.specs.declared.context_word.ContextWord.{ContextWord}
use Rattle.k_ids.specs.declared.context_word.ContextWord.TheVariants.{Empty, Clean, Holds, Taken}
use Rattle.k_locks.specs.Numbers.{version_at}
use Rattle.k_locks.specs.Numbers.{is_present as is_there}
use Rattle.k_model.specs.State.{is_dead, is_present}
use Rattle.k_model.specs.Sound.{IsSound, IsListed}
use Rattle.k_shown.specs.Memory.{Memory, table}
use Rattle.k_locks.specs.Shown.{shows}

-- Who stands in the list of a priority has that priority, is there, and is on.
pub record IsReady (m : Memory) (priority : ℕ) (id : ThreadId) : Type 0 where
  pub version : (m.word id.number).version ≡ id.version
  pub alive : is_dead (shows (m.word id.number).state) ≡ false
  pub on : (m.word id.number).on ≡ true
  pub level : (m.word id.number).priority ≡ priority

-- There are 64 lists, and no thread stands in one twice.
pub record IsSoundReady (m : Memory) : Type 0 where
  pub count : length m.ready.lists ≡ 64
  pub ready : (priority : ℕ) → AllByRecursion (IsReady m priority) (list_of m.ready.lists priority)
  pub once : (priority : ℕ) → IsOnceEach (list_of m.ready.lists priority)

-- Each word has a spelling, and so has each entry of a queue. Who waits for a thread waits for one that is there, and nobody
-- waits to send to itself. The ready lists are sound.
pub record IsSoundWords (m : Memory) : Type 0 where
  pub words : (n : ℕ) → IsStateWord (m.word n)
  pub sending : (n : ℕ) (to : ThreadId) → shows (m.word n).state ≡ status.Sending to → (is_present (table m) to ≡ true) × (to.number ≢ n)
  pub receiving : (n : ℕ) (from : ThreadId) → shows (m.word n).state ≡ status.Receiving (Some from) → is_present (table m) from ≡ true
  pub ready : IsSoundReady m
  pub entries : (n : ℕ) → AllByRecursion IsEntry (m.queue n).entries

-- The list of numbers says which numbers have a thread, and their versions.
pub record IsSoundNumbers (m : Memory) : Type 0 where
  pub versions : length m.numbers.versions ≡ m.size
  pub presences : length m.numbers.present ≡ m.size
  pub version : (n : ℕ) → n < m.size → version_at m.numbers n ≡ (m.word n).version
  pub present : (n : ℕ) → n < m.size → is_there m.numbers n ≡ not (is_dead (shows (m.word n).state))

-- whether a context word is that of a context of this version: it may be in a carrier's hand, but holds no lock
abbrev pub IsContext : ℕ → ContextWord → Type 0
IsContext version Empty = ⊥
IsContext version (Clean v) = v ≡ version
IsContext version (Holds v) = ⊥
IsContext version (Taken carrier v) = v ≡ version

-- Each thread has a context, and a dead number has none.
pub record IsSoundContexts (m : Memory) : Type 0 where
  pub there : (n : ℕ) → is_dead (shows (m.word n).state) ≡ false → IsContext (m.word n).version (m.context n)
  pub none : (n : ℕ) → is_dead (shows (m.word n).state) ≡ true → m.context n ≡ Empty

pub record IsSoundMemory (m : Memory) : Type 0 where
  pub small : m.size ≤ 64
  -- each queue has room for an entry of each number
  pub room : (n : ℕ) → n < m.size → (m.queue n).room ≡ m.size
  pub words : IsSoundWords m
  pub numbers : IsSoundNumbers m
  pub contexts : IsSoundContexts m
  -- each entry of a queue is that of a sender to its thread, none has a number twice, nobody waits for a dead number, and
  -- numbers past the table are dead
  pub lists : IsSound (table m)
  -- each sender has an entry
  pub listed : IsListed (table m)

-- The caller of a section runs, is on, and its word is the one that its context knows.
pub record IsCaller (m : Memory) (me : ThreadId) (own : StateWord) : Type 0 where
  pub word : m.word me.number ≡ own
  pub version : own.version ≡ me.version
  pub on : own.on ≡ true
  pub result : Result4
  pub runs : own.state ≡ state.Run result

-- The caller of a pick has replied, and is on; its word is the one that its context knows.
pub record IsPicker (m : Memory) (me : ThreadId) (own : StateWord) : Type 0 where
  pub word : m.word me.number ≡ own
  pub version : own.version ≡ me.version
  pub on : own.on ≡ true
  pub picks : own.state ≡ state.Picking

-- .. or a message was delivered to it since.
pub record IsDelivered (m : Memory) (me : ThreadId) : Type 0 where
  pub from : ThreadId
  pub runs : (m.word me.number).state ≡ state.Run (result4.Delivered from)
