-- A thread doesn't wait to send to its own number.
use Rattle.std.specs.Prelude.{◌≡◌, ◌≢◌, ℕ, Bool}
use Rattle.k_ids.specs.declared.threads.ThreadId.{ThreadId}
use Rattle.k_ids.specs.declared.state_word.State.TheVariants as state
use Rattle.k_board.specs.Words.{Seen}

abbrev pub SendsOutward : (ℕ → Seen) → Type 0
SendsOutward seen = (t : ℕ) (to : ThreadId) (joined : Bool) → (seen t).word.state ≡ state.Sending to joined → to.number ≢ t
