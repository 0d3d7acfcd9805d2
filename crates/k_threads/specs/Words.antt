-- What a section reads from a state word, and the words that it writes.
use Rattle.std.specs.Prelude.{ℕ, Bool, true, false, if◌then◌else◌, Option, Some, None}
use Rattle.k_ids.specs.declared.threads.ThreadId.{ThreadId}
use Rattle.k_ids.specs.declared.state_word.State.{State}
use Rattle.k_ids.specs.declared.state_word.State.TheVariants as state
use Rattle.k_ids.specs.declared.state_word.Result4.TheVariants as result4
use Rattle.k_ids.specs.declared.state_word.StateWord.{StateWord}
use Rattle.k_model.specs.State.{same_id}
use Rattle.k_locks.specs.declared.steps.Answer.{Answer}
use Rattle.k_locks.specs.Steps.{is_again, one_more}

-- READING

abbrev pub is_one : Option ThreadId → ThreadId → Bool
is_one None who = false
is_one (Some id) who = same_id id who

-- whether the thread waits for a message from this one alone
abbrev pub is_receiving_from : ThreadId → State → Bool
is_receiving_from who (state.Receiving from) = is_one from who
is_receiving_from who state.Dead = false
is_receiving_from who (state.Run outcome) = false
is_receiving_from who (state.Sending to joined) = false
is_receiving_from who state.Picking = false
is_receiving_from who state.Ended = false

-- WRITING

-- a number whose thread of this version was destroyed; 0 where it has had none
abbrev pub dead_word : ℕ → StateWord
dead_word version = record { version = version; priority = 0; on = false; state = state.Dead }

-- a new thread: it runs, and is on
abbrev pub created_word : ℕ → ℕ → StateWord
created_word version priority = record { version = version; priority = priority; on = true; state = state.Run result4.Plain }

-- a thread that waited for one that is gone: it runs, and is on
abbrev pub freed_word : StateWord → StateWord
freed_word word = record word { on = true; state = state.Run result4.Gone }

-- the thread that has the number by this word
abbrev pub thread_at : ℕ → StateWord → ThreadId
thread_at number word = record { number = number; version = word.version }

-- COUNTING

-- The steps made, after this answer: one more, unless the same step is asked for again.
abbrev pub done_after : Answer → ℕ → ℕ
done_after a done = if is_again a then done else one_more done
