-- What the laws are claimed of: boards of an invariant that every turn keeps, and what was removed on them.
use Rattle.std.specs.Prelude.{◌≡◌, ◌≢◌, ℕ, ◌<◌, true, Option, Some, None}
use Rattle.k_senders.specs.Queue.{stands}
use Rattle.k_locks.specs.Asks.{Want}
use Rattle.k_locks.specs.Asks as asks
use Rattle.k_locks.specs.Locks.{lowest_held}
use Rattle.k_board.specs.Words.{Programs}
use Rattle.k_board.specs.Boards.{Board}
use Rattle.k_board.specs.Turns.{Turn}
use Rattle.k_good.specs.Good.{IsGood, QueuesTell}
use Rattle.k_good.specs.Locks.{locks_at}
use Rattle.k_good.specs.Ranges.{IsWithin, NamesFit}
use Rattle.k_sections.specs.Situations.{Situation}

-- PREMISES, of any invariant of boards: it implies that a board is good and within its ranges, that the queues tell what a turn
-- stands on, and that the entries of each queue are of numbers of the table other than its own; and every turn keeps it.
pub record IsKept (g : Programs) (I : Board → Type 0) : Type 0 where
  pub good : (b : Board) → I b → IsGood g b
  pub within : (b : Board) → I b → IsWithin b
  pub queues : (b : Board) → I b → (i : ℕ) → QueuesTell b i
  pub entered : (b : Board) → I b → (t n : ℕ) → stands n (b.queue t) ≡ true → (n < b.size) × (n ≢ t)
  pub kept : (b b' : Board) (i : ℕ) → I b → Turn g b i b' → I b'

-- What of these premises is about queues, as a predicate of its own: every turn keeps it on a good board within its ranges.
pub record IsQueued (g : Programs) (J : Board → Type 0) : Type 0 where
  pub queues : (b : Board) → J b → (i : ℕ) → QueuesTell b i
  pub entered : (b : Board) → J b → (t n : ℕ) → stands n (b.queue t) ≡ true → (n < b.size) × (n ≢ t)
  pub kept : (b b' : Board) (i : ℕ) → IsGood g b → IsWithin b → J b → Turn g b i b' → J b'

-- A good board within its ranges, with such queues, of programs that name its threads alone.
pub record IsSoundBoard (g : Programs) (J : Board → Type 0) (b : Board) : Type 0 where
  pub good : IsGood g b
  pub within : IsWithin b
  pub names : NamesFit g b.size
  pub queued : J b

-- The board keeps the invariant; and of a context that was removed: its number's context holds no lock, and it wasn't about to
-- remove another, since it held none either.
pub record IsGoodSituation (I : Board → Type 0) (s : Situation) : Type 0 where
  pub board : I s.board
  pub unlocked : (n : ℕ) (want : Option Want) → s.removed n ≡ Some want →
      lowest_held (locks_at (s.board.context n).at) ≡ None
  pub spared : (n : ℕ) (want : Option Want) → s.removed n ≡ Some want → (m : ℕ) → want ≢ Some (asks.Context m)
