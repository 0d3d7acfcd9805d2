-- Threads, as their state words spell them.
use Rattle.std.specs.Prelude.{ℕ, ◌≤◌, ◌≡◌, Bool, true, false}
use Rattle.k_ids.specs.declared.threads.ThreadId.{ThreadId}
use Rattle.k_ids.specs.declared.state_word.State.{State}
use Rattle.k_ids.specs.declared.state_word.State.TheVariants as state
use Rattle.k_ids.specs.declared.state_word.StateWord.{StateWord}
use Rattle.k_ids.specs.StateWords.{IsStateSpelling, IsStateWord, state_word_of}

abbrev pub runs : State → Bool
runs (state.Run result) = true
runs state.Dead = false
runs (state.Sending to joined) = false
runs (state.Receiving from) = false
runs state.Picking = false
runs state.Ended = false

-- the word spells a thread that is there, or was
pub record IsThread (w : StateWord) : Type 0 where
  pub whole : IsStateWord w
  pub born : 1 ≤ w.version

-- the bits spell a word of the thread while it runs
pub record IsRunOf (who : ThreadId) (bits : ℕ) : Type 0 where
  pub spelled : IsStateSpelling bits
  pub version : (state_word_of bits).version ≡ who.version
  pub running : runs (state_word_of bits).state ≡ true
