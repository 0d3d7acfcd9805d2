-- Where each context stands when the kernel begins: a thread between two calls, of which it has made none; nobody; or a carrier that
-- rests.
use Rattle.std.specs.Prelude.{◌≡◌, ℕ, true, None}
use Rattle.k_ids.specs.declared.threads.ThreadId.{ThreadId}
use Rattle.k_locks.specs.Shown.{is_dead}
use Rattle.k_threads.specs.Words.{created_word}
use Rattle.k_caller.specs.declared.thread.ThreadLocation.TheVariants as location
use Rattle.k_board.specs.Words.{Programs}
use Rattle.k_board.specs.Boards.{Alone, Resting, Nowhere, Board}

-- the first thread of a number
abbrev pub first_of : ℕ → ThreadId
first_of n = record { number = n; version = 1 }

-- A thread of this program and priority has the number, and has made no call.
pub record IsThreadAt (g : Programs) (b : Board) (n program priority : ℕ) : Type 0 where
  pub word : (b.seen n).word ≡ created_word 1 priority
  pub last : (b.seen n).last ≡ 0
  pub told : (b.seen n).told ≡ None
  pub position : (b.seen n).position ≡ g.start (first_of n) program
  pub context : b.context n ≡ record {
    serial = 0;
    own = created_word 1 priority;
    position = g.start (first_of n) program;
    at = Alone (location.Between None);
  }

pub data Booted (g : Programs) (b : Board) (n : ℕ) : Type 0 where
  has_thread : (program priority : ℕ) → IsThreadAt g b n program priority → Booted g b n
  has_none : is_dead (b.seen n).word ≡ true → (b.context n).at ≡ Nowhere → Booted g b n
  has_carrier : is_dead (b.seen n).word ≡ true → (b.context n).at ≡ Resting → Booted g b n
