-- State words, as they are written.
use Rattle.std.specs.Prelude.{ℕ, true, false}
use Rattle.k_ids.specs.declared.state_word.Result4.TheVariants as result4
use Rattle.k_ids.specs.declared.state_word.State.{State}
use Rattle.k_ids.specs.declared.state_word.State.TheVariants as state
use Rattle.k_ids.specs.declared.state_word.StateWord.{StateWord}

-- a thread's word with another state, on
abbrev pub on_with : StateWord → State → StateWord
on_with w s = record w { on = true; state = s }

-- a new thread: it runs, and is on
abbrev pub new_word : ℕ → ℕ → StateWord
new_word version priority = record { version = version; priority = priority; on = true; state = state.Run result4.Plain }

-- a number whose thread of this version was destroyed; 0 where it has had none
abbrev pub dead_word : ℕ → StateWord
dead_word version = record { version = version; priority = 0; on = false; state = state.Dead }
