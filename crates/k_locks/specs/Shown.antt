-- What a state word shows of its number.
use Rattle.std.specs.Prelude.{ℕ, Bool, true, false, ◌&&◌, not, ◌==◌}
use Rattle.k_ids.specs.declared.threads.ThreadId.{ThreadId}
use Rattle.k_ids.specs.declared.threads.Found.{Found}
use Rattle.k_ids.specs.declared.threads.Status.{Status}
use Rattle.k_ids.specs.declared.threads.Status.TheVariants as status
use Rattle.k_ids.specs.declared.state_word.State.{State}
use Rattle.k_ids.specs.declared.state_word.State.TheVariants as state
use Rattle.k_ids.specs.declared.state_word.StateWord.{StateWord}

-- the status of the sequential specification
abbrev pub shows : State → Status
shows state.Dead = status.Dead
shows (state.Run result) = status.Run
shows (state.Sending to joined) = status.Sending to
shows (state.Receiving from) = status.Receiving from
shows state.Picking = status.Picking
shows state.Ended = status.Ended

abbrev pub is_dead_state : State → Bool
is_dead_state state.Dead = true
is_dead_state (state.Run result) = false
is_dead_state (state.Sending to joined) = false
is_dead_state (state.Receiving from) = false
is_dead_state state.Picking = false
is_dead_state state.Ended = false

-- whether the number has no thread
abbrev pub is_dead : StateWord → Bool
is_dead w = is_dead_state w.state

-- whether this word of the thread's number shows that the thread is there
abbrev pub is_present_in : StateWord → ThreadId → Bool
is_present_in w id = (w.version == id.version) && not (is_dead w)

-- what a number shows, by its state word
abbrev pub found_in : ℕ → StateWord → Found
found_in number w = record { id = record { number = number; version = w.version }; status = shows w.state }
