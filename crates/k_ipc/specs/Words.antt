-- Changes of state words by a send or a receive, and what its steps ask of words and queues.
use Rattle.std.specs.Prelude.{ℕ, ◌<◌, ◌≡◌, Bool, true, false, if◌then◌else◌, Some, length}
use Rattle.k_ids.specs.declared.calls.Reply.{Reply}
use Rattle.k_ids.specs.declared.threads.ThreadId.{ThreadId}
use Rattle.k_ids.specs.declared.state_word.Result4.TheVariants as result4
use Rattle.k_ids.specs.declared.state_word.State.{State}
use Rattle.k_ids.specs.declared.state_word.State.TheVariants as state
use Rattle.k_ids.specs.declared.state_word.StateWord.{StateWord}
use Rattle.k_ids.specs.StateWords.{IsStateSpelling, state_word_of}
use Rattle.k_model.specs.State.{same_id}
use Rattle.k_senders.specs.Queue.{Queue, stands}
use Rattle.k_locks.specs.declared.steps.Went.{Went}
use Rattle.k_locks.specs.declared.steps.Went.TheVariants as went
use Rattle.k_locks.specs.Shown.{is_dead}

-- a thread with another state, on where it was
abbrev pub in_state : State → StateWord → StateWord
in_state s w = record w { state = s }

-- a thread with another state, and on
abbrev pub on_in : State → StateWord → StateWord
on_in s w = record w { on = true; state = s }

abbrev pub is_joined_to : State → Bool
is_joined_to (state.Sending to joined) = joined
is_joined_to state.Dead = false
is_joined_to (state.Run result) = false
is_joined_to (state.Receiving from) = false
is_joined_to state.Picking = false
is_joined_to state.Ended = false

-- The word of a sender whose message is taken. It runs, and is on; or, where its send was joined, it waits for the receiver's
-- answer, on where it was.
abbrev pub freed : ThreadId → StateWord → StateWord
freed receiver w = if is_joined_to w.state then in_state (state.Receiving (Some receiver)) w else on_in (state.Run result4.Sent) w

-- whether a thread of this state waits until this receiver takes its message
abbrev pub sends_to : ThreadId → State → Bool
sends_to receiver (state.Sending to joined) = same_id to receiver
sends_to receiver state.Dead = false
sends_to receiver (state.Run result) = false
sends_to receiver (state.Receiving from) = false
sends_to receiver state.Picking = false
sends_to receiver state.Ended = false

-- the bits spell a word of the thread while it picks
pub record IsPickingOf (who : ThreadId) (bits : ℕ) : Type 0 where
  pub spelled : IsStateSpelling bits
  pub version : (state_word_of bits).version ≡ who.version
  pub picking : (state_word_of bits).state ≡ state.Picking

-- The call ends with this reply, unless the caller's word shows that it was destroyed.
abbrev pub alive_or_dead : StateWord → Reply → Went
alive_or_dead w r = if is_dead w then went.CallerDead else went.Ends r

-- a queue to which an entry of this thread can be appended: it has room, and no entry of the thread's number
pub record IsRoom (who : ThreadId) (queue : Queue) : Type 0 where
  pub few : length queue.entries < queue.room
  pub inside : who.number < queue.room
  pub fresh : stands who.number queue.entries ≡ false
