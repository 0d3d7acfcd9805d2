-- What a run leaves of words, mails and lists, beyond what the state shows. `m` is the memory before it, and `m'` the one
-- after; `event` is the section's own, and `lines` are the replies that the run gives.
use Rattle.std.specs.Prelude.{ℕ, ◌≡◌, ◌≢◌, ◌==◌, true, false, not, ◌&&◌, ◌||◌, Option, Some, List, [], ◌∷◌, ◌++◌, map}
use Rattle.std.specs.List.{AllByRecursion, filter, list_any}
use Rattle.k_ids.specs.declared.threads.ThreadId.{ThreadId}
use Rattle.k_ids.specs.declared.threads.Status.TheVariants as status
use Rattle.k_ids.specs.declared.calls.Act.{Act}
use Rattle.k_ids.specs.declared.calls.Act.TheVariants as act
use Rattle.k_ids.specs.declared.calls.Phase.TheVariants as phase
use Rattle.k_ids.specs.declared.calls.Outcome.{Outcome}
use Rattle.k_ids.specs.declared.calls.Outcome.TheVariants as outcome
use Rattle.k_ids.specs.declared.calls.Reply.{Reply}
use Rattle.k_ids.specs.declared.calls.Reply.TheVariants as reply
use Rattle.k_ids.specs.declared.histories.Event.{Event}
use Rattle.k_ids.specs.declared.histories.ReplyLine.{ReplyLine}
use Rattle.k_ids.specs.declared.context_word.ContextWord.TheVariants.{Clean}
use Rattle.k_ids.specs.declared.state_word.Result4.{Result4}
use Rattle.k_ids.specs.declared.state_word.Result4.TheVariants as result4
use Rattle.k_ids.specs.declared.state_word.State.{State}
use Rattle.k_ids.specs.declared.state_word.State.TheVariants as state
use Rattle.k_ids.specs.declared.state_word.StateWord.{StateWord}
use Rattle.k_ids.specs.declared.threads.Message.{Message}
use Rattle.k_ready.specs.Lists.{list_of}
use Rattle.k_locks.specs.Shown.{shows}
use Rattle.k_model.specs.Answered.{reply_to}
use Rattle.k_model.specs.State.{is_dead, is_present, is_run, same_id}
use Rattle.k_shown.specs.Words.{new_word, on_with}
use Rattle.k_shown.specs.Memory.{Memory, table, waiting}

-- WORDS

-- A thread's word with another state. It is on where it was, and where the thread runs now and didn't.
abbrev pub moved_word : State → StateWord → StateWord
moved_word s w = record w { on = w.on || (is_run (shows s) && not (is_run (shows w.state))); state = s }

-- the result in the word of a thread that a reply has woken
abbrev pub result_with : Reply → Result4
result_with (reply.Got from message) = result4.Delivered from
result_with reply.Sent = result4.Sent
result_with reply.Gone = result4.Gone
result_with r = result4.Plain

-- and its mail word
abbrev pub mail_with : Reply → Message → Message
mail_with (reply.Got from message) old = message
mail_with r old = old

-- A thread that has this reply runs.
pub record IsWoken (m m' : Memory) (line : ReplyLine) : Type 0 where
  pub word : m'.word line.id.number ≡ on_with (m.word line.id.number) (state.Run (result_with line.reply))
  pub mail : m'.mail line.id.number ≡ mail_with line.reply (m.mail line.id.number)

-- the state of a caller that runs at the end, by what it does and the reply to it
abbrev pub state_told : Option Reply → State → State
state_told (Some reply.Sent) s = state.Run result4.Sent
state_told (Some reply.Gone) s = state.Run result4.Gone
state_told r s = s

abbrev pub state_with : Act → Option Reply → State → State
state_with act.Pick r s = state.Run result4.Plain
state_with a r s = state_told r s

-- the priority of a new thread
abbrev pub level_of : Act → ℕ
level_of (act.Call (phase.Create program priority)) = priority
level_of a = 0

-- LISTS

-- those who have a reply, but for the caller
abbrev pub woken_by : ThreadId → List ReplyLine → List ThreadId
woken_by who lines = filter (λ id. not (same_id id who)) (map (λ line. line.id) lines)

abbrev pub made_by : Outcome → List ThreadId
made_by (outcome.Made id) = id ∷ []
made_by o = []

-- who is put into a ready list: those of them that were off, and a new thread
abbrev pub pushed_by : Memory → ThreadId → Outcome → List ReplyLine → List ThreadId
pushed_by m who o lines = filter (λ id. not (m.word id.number).on) (woken_by who lines ++ made_by o)

-- WHAT THE RUN LEAVES

pub record Leaves (event : Event) (o : Outcome) (lines : List ReplyLine) (m m' : Memory) : Type 0 where
  -- the word of a thread that stays there
  pub words : (n : ℕ) → is_dead (shows (m.word n).state) ≡ false → is_dead (shows (m'.word n).state) ≡ false → m'.word n ≡ moved_word (m'.word n).state (m.word n)
  -- whose status is the same, and isn't the caller, has the same word
  pub same : (n : ℕ) → n ≢ event.who.number → shows (m'.word n).state ≡ shows (m.word n).state → m'.word n ≡ m.word n
  -- a new thread
  pub made : (n : ℕ) → is_dead (shows (m.word n).state) ≡ true → is_dead (shows (m'.word n).state) ≡ false → (m'.word n ≡ new_word (m'.word n).version (level_of event.act)) × (m'.context n ≡ Clean (m'.word n).version)
  -- each other thread that has a reply
  pub woken : AllByRecursion (λ line. same_id line.id event.who ≡ false → IsWoken m m' line) lines
  -- the caller
  pub own : shows (m'.word event.who.number).state ≡ status.Run → (m'.word event.who.number).state ≡ state_with event.act (reply_to lines event.who event.serial) (m.word event.who.number).state
  -- No other mail changes, no queue but those that the state says, and no context but a new or a dead thread's.
  pub mails : (n : ℕ) → list_any (λ line. (line.id.number == n) && not (same_id line.id event.who)) lines ≡ false → m'.mail n ≡ m.mail n
  pub queues : (n : ℕ) → waiting (m'.queue n) ≡ waiting (m.queue n) → m'.queue n ≡ m.queue n
  pub contexts : (n : ℕ) → is_dead (shows (m'.word n).state) ≡ is_dead (shows (m.word n).state) → m'.context n ≡ m.context n
  -- In each ready list stand those that stood there and are there still, and then who is pushed, in the order of the replies.
  pub lists : (p : ℕ) → list_of m'.ready.lists p ≡ filter (λ id. is_present (table m') id) (list_of m.ready.lists p) ++ filter (λ id. (m'.word id.number).priority == p) (pushed_by m event.who o lines)
  pub running : m'.ready.running ≡ m.ready.running
