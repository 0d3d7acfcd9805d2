-- The words and guarded data that the sections work on, by name, and which state of the sequential specification they show.
-- Here no carrier is spoken of, and no lock is taken by another.
use Rattle.std.specs.Prelude.{ℕ, ◌≡◌, Bool, false, List, [], map}
use Rattle.k_ids.specs.declared.state_word.State.{State}
use Rattle.k_ids.specs.declared.state_word.State.TheVariants as state
use Rattle.k_ids.specs.declared.state_word.StateWord.{StateWord}
use Rattle.k_ids.specs.declared.context_word.ContextWord.{ContextWord}
use Rattle.k_senders.specs.declared.entries.SenderEntry.{SenderEntry}
use Rattle.k_senders.specs.Queue.{Queue}
use Rattle.k_ready.specs.Lists.{Ready}
use Rattle.k_locks.specs.Numbers.{ThreadNumbers}
use Rattle.k_locks.specs.Shown.{shows}
use Rattle.k_ids.specs.declared.threads.Message.{Message}
use Rattle.k_senders.specs.Entries.{message_of, sender_of}
use Rattle.k_model.specs.Maps.{upd}
use Rattle.k_model.specs.State.{KernelState, Waiting, Place}

-- State words, mail words and context words are decoded. What is by thread number is a total map.
pub record Memory : Type 0 where
  pub size : ℕ  -- how many numbers the table has
  pub word : ℕ → StateWord
  pub mail : ℕ → Message
  pub context : ℕ → ContextWord
  pub numbers : ThreadNumbers  -- which numbers have a thread
  pub queue : ℕ → Queue  -- who waits to send to the thread
  pub ready : Ready  -- who runs and waits for the processor

-- CHANGES

abbrev pub with_word : Memory → ℕ → StateWord → Memory
with_word m number w = record m { word = upd m.word number w }

abbrev pub with_mail : Memory → ℕ → Message → Memory
with_mail m number message = record m { mail = upd m.mail number message }

abbrev pub with_context : Memory → ℕ → ContextWord → Memory
with_context m number w = record m { context = upd m.context number w }

abbrev pub with_numbers : Memory → ThreadNumbers → Memory
with_numbers m ns = record m { numbers = ns }

abbrev pub with_queue : Memory → ℕ → Queue → Memory
with_queue m number q = record m { queue = upd m.queue number q }

abbrev pub with_ready : Memory → Ready → Memory
with_ready m lists = record m { ready = lists }

-- THE ABSTRACTION: what a number shows, by its word and its queue

abbrev pub joined_of : State → Bool
joined_of state.Dead = false
joined_of (state.Run result) = false
joined_of (state.Sending to joined) = joined
joined_of (state.Receiving from) = false
joined_of state.Picking = false
joined_of state.Ended = false

abbrev pub waiting_of : SenderEntry → Waiting
waiting_of e = (sender_of e, message_of e)

abbrev pub waiting : Queue → List Waiting
waiting q = map waiting_of q.entries

-- The state shows the memory's threads and waiting senders. Serials and replies aren't in the memory.
pub record Shows (m : Memory) (k : KernelState) : Type 0 where
  pub size : k.size ≡ m.size
  pub version : (n : ℕ) → (k.place n).version ≡ (m.word n).version
  pub status : (n : ℕ) → (k.place n).status ≡ shows (m.word n).state
  pub joined : (n : ℕ) → (k.place n).joined ≡ joined_of (m.word n).state
  pub waiting : (n : ℕ) → (k.place n).waiting ≡ waiting (m.queue n)

-- A state that shows the memory, in which nobody has made a call.
abbrev pub place_of : StateWord → Queue → Place
place_of w q = record { version = w.version; status = shows w.state; joined = joined_of w.state; serial = 0; waiting = waiting q }

abbrev pub table : Memory → KernelState
table m = record { size = m.size; place = λ n. place_of (m.word n) (m.queue n); replies = [] }
