-- The board on which the kernel begins.
use Rattle.std.specs.Prelude.{◌≡◌, ℕ, ◌≤◌, nat_lt, not, true, None, [], length}
use Rattle.k_locks.specs.Shown.{is_dead}
use Rattle.k_locks.specs.declared.locks.Lock.{Lock}
use Rattle.k_board.specs.Words.{Programs}
use Rattle.k_board.specs.Boards.{Board, owner_of}
use Rattle.k_board.specs.Boots.{Booted}
use Rattle.k_good.specs.Good.{NumbersAgree}

-- The first numbers have a thread each, and no other number has one. No lock is owned, nobody waits, and where there is no thread
-- no call was made.
pub record IsFirstBoard (g : Programs) (b : Board) (threads : ℕ) : Type 0 where
  pub booted : (n : ℕ) → Booted g b n
  pub free : (l : Lock) → owner_of b l ≡ None
  pub empty : (n : ℕ) → b.queue n ≡ []
  pub agree : NumbersAgree b.seen b.numbers b.context
  pub count : length b.numbers.versions ≡ b.size
  pub few : threads ≤ b.size
  pub who : (n : ℕ) → is_dead (b.seen n).word ≡ not (nat_lt n threads)
  pub unused : (n : ℕ) → is_dead (b.seen n).word ≡ true → ((b.seen n).last ≡ 0) × ((b.seen n).told ≡ None)
