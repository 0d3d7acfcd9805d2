-- The board on which a kernel begins, as an opening of the good world has it.
use Rattle.std.specs.Prelude.{◌≡◌, ◌⊎◌, ℕ, ◌<◌, ◌≤◌, length, None}
use Rattle.k_ready.specs.Lists.{list_of}
use Rattle.k_threads.specs.Words.{dead_word}
use Rattle.k_board.specs.Words.{Programs}
use Rattle.k_board.specs.Boards.{Board, Nowhere, Resting}
use Rattle.k_board.specs.Boots.{IsThreadAt}
use Rattle.k_switching.specs.Boot.{Opening, boot_list}

-- The first numbers have a thread each, and the others none. No lock is owned, no carrier runs a thread, and who waits for no
-- start is in a ready list.
pub record IsOpening (g : Programs) (b : Board) (o : Opening) : Type 0 where
  pub thread : (n : ℕ) → n < o.threads → (program : ℕ) × IsThreadAt g b n program (o.priority n)
  pub none : (n : ℕ) → o.threads ≤ n → (b.seen n).word ≡ dead_word (o.aged n)
  pub away : (n : ℕ) → o.threads ≤ n → ((b.context n).at ≡ Nowhere) ⊎ ((b.context n).at ≡ Resting)
  pub few : o.threads ≤ b.size
  pub table : b.table ≡ None
  pub ready : b.ready ≡ None
  pub lists : list_of b.lists.lists ≡ boot_list o o.threads
  pub whole : length b.lists.lists ≡ 64
  pub running : b.lists.running ≡ 0
