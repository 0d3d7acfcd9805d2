-- One event of the specification, as a memory shows it: who makes it, which words and queues it changes, and what it gives.
use Rattle.std.specs.Prelude.{ℕ, ◌+◌, ◌≡◌, Bool, true, false, not, List, [], ◌∷◌, ◌++◌, Option, Some, None, if◌then◌else◌}
use Rattle.std.specs.List.{AllByRecursion, filter}
use Rattle.k_ids.specs.declared.threads.ThreadId.{ThreadId}
use Rattle.k_ids.specs.declared.threads.Message.{Message}
use Rattle.k_ids.specs.declared.threads.Status.{Status}
use Rattle.k_ids.specs.declared.threads.Status.TheVariants as status
use Rattle.k_ids.specs.declared.calls.Phase.{Phase}
use Rattle.k_ids.specs.declared.calls.Phase.TheVariants as phase
use Rattle.k_ids.specs.declared.calls.Act.TheVariants as act
use Rattle.k_ids.specs.declared.calls.Outcome.{Outcome}
use Rattle.k_ids.specs.declared.calls.Reply.{Reply}
use Rattle.k_ids.specs.declared.calls.Reply.TheVariants as reply
use Rattle.k_ids.specs.declared.histories.Event.{Event}
use Rattle.k_ids.specs.declared.histories.ReplyLine.{ReplyLine}
use Rattle.k_ids.specs.declared.state_word.StateWord.{StateWord}
use Rattle.k_senders.specs.Queue.{Queue}
use Rattle.k_locks.specs.Shown.{shows}
use Rattle.k_model.specs.Maps.{upd}
use Rattle.k_model.specs.State.{KernelState, Waiting, admits, answered, is_run, same_id}
use Rattle.k_model.specs.Step.{called, is_enabled, outcome_of, status_after}
use Rattle.k_shown.specs.Memory.{Memory, Shows, joined_of, waiting, with_queue, with_word}

-- WORDS

-- The thread has its number, and this status.
pub record IsIn (m : Memory) (id : ThreadId) (s : Status) : Type 0 where
  pub version : (m.word id.number).version ≡ id.version
  pub status : shows (m.word id.number).state ≡ s

-- a word that shows this of the thread
pub record IsWordOf (id : ThreadId) (s : Status) (waits : Bool) (w : StateWord) : Type 0 where
  pub version : w.version ≡ id.version
  pub status : shows w.state ≡ s
  pub joined : joined_of w.state ≡ waits

-- The second memory shows what the first shows. Who is on, results, mails, ready lists and numbers aren't shown.
pub record Alike (m m' : Memory) : Type 0 where
  pub size : m'.size ≡ m.size
  pub version : (n : ℕ) → (m'.word n).version ≡ (m.word n).version
  pub status : (n : ℕ) → shows (m'.word n).state ≡ shows (m.word n).state
  pub joined : (n : ℕ) → joined_of (m'.word n).state ≡ joined_of (m.word n).state
  pub waiting : (n : ℕ) → waiting (m'.queue n) ≡ waiting (m.queue n)

-- EVENTS

-- the serial of a thread's next call
abbrev pub next_serial : KernelState → ThreadId → ℕ
next_serial k me = (k.place me.number).serial + 1

-- a thread's next call
abbrev pub call_of : KernelState → ThreadId → Phase → Event
call_of k me p = record { who = me; serial = next_serial k me; act = act.Call p }

-- the pick that goes on with a thread's last call
abbrev pub pick_of : KernelState → ThreadId → Event
pick_of k me = record { who = me; serial = (k.place me.number).serial; act = act.Pick }

-- a thread's last call ends, since the one that it waits for isn't there
abbrev pub gone_of : KernelState → ThreadId → Event
gone_of k me = record { who = me; serial = (k.place me.number).serial; act = act.Gone }

-- the state in which the thread has taken the serial of its next call
abbrev pub called_by : KernelState → ThreadId → KernelState
called_by k me = called k me (next_serial k me)

-- WHAT AN EVENT GIVES

abbrev pub told : ThreadId → ℕ → Reply → ReplyLine
told id serial r = record { id = id; serial = serial; reply = r }

-- the reply to a sender whose message has passed
abbrev pub sent_line : ThreadId → ℕ → Status → List ReplyLine
sent_line who serial after = if is_run after then told who serial reply.Sent ∷ [] else []

-- The event may be made in the state, with this outcome. It leads to the second state, which the memory shows, and gives these
-- replies.
pub record Gives (k : KernelState) (event : Event) (o : Outcome) (k' : KernelState) (lines : List ReplyLine) (m' : Memory) : Type 0 where
  pub enabled : is_enabled k event ≡ true
  pub makes : outcome_of k event ≡ (k', o)
  pub replies : k'.replies ≡ k.replies ++ lines
  pub shows : Shows m' k'

-- The call changes no thread, and has this reply.
abbrev pub Answers : KernelState → ThreadId → Phase → Outcome → Reply → Memory → Type 0
Answers k me p o r m' =
    Gives k (call_of k me p) o (answered (called_by k me) me (next_serial k me) r) (told me (next_serial k me) r ∷ []) m'

-- SENDS

-- What is sent to whom, by a call or a reply; whether it may wait; and the caller's status once it has passed.
pub record Sending : Type 0 where
  pub to : ThreadId
  pub message : Message
  pub zero : Bool
  pub joined : Bool
  pub after : Status

abbrev pub sending_of : Phase → Option Sending
sending_of (phase.Send to message zero joined) = Some (record { to = to; message = message; zero = zero; joined = joined; after = status_after joined to })
sending_of (phase.Reply to message zero) = Some (record { to = to; message = message; zero = zero; joined = false; after = status.Picking })
sending_of (phase.Receive from zero) = None
sending_of (phase.Create program priority) = None
sending_of (phase.Destroy who) = None
sending_of phase.End = None

-- RECEIVES

-- `w` is the first of a list whom a receiver wants, between those before it and those after it.
pub record IsFirst (from : Option ThreadId) (ws : List Waiting) (w : Waiting) (before after : List Waiting) : Type 0 where
  pub list : ws ≡ before ++ w ∷ after
  pub unwanted : AllByRecursion (λ v. admits from v.0 ≡ false) before
  pub wanted : admits from w.0 ≡ true

-- nobody of a list is wanted
abbrev pub IsUnwanted : Option ThreadId → List Waiting → Type 0
IsUnwanted from ws = AllByRecursion (λ v. admits from v.0 ≡ false) ws

-- The message of a sender to this receiver is taken: the sender has another word, and the receiver another queue.
abbrev pub taking : Memory → ThreadId → ThreadId → StateWord → Queue → Memory
taking m me sender w q = with_queue (with_word m sender.number w) me.number q

-- DESTROYS

-- who waits to send to each number, once a thread is dead: nobody to it, and it waits nowhere
abbrev pub waiting_without : Memory → ThreadId → ℕ → List Waiting
waiting_without m who = upd (λ n. filter (λ w. not (same_id w.0 who)) (waiting (m.queue n))) who.number []
