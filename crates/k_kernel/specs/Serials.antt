-- The serials of calls, against how many entries the history has.
use Rattle.std.specs.Prelude.{ℕ, ◌+◌, ◌≤◌}
use Rattle.k_board.specs.Boards.{Board, Context}
use Rattle.k_board.specs.Words.{Seen}

abbrev pub LastsUpTo : ℕ → (ℕ → Seen) → Type 0
LastsUpTo count s = (n : ℕ) → (s n).last ≤ count

abbrev pub SerialsUpTo : ℕ → (ℕ → Context) → Type 0
SerialsUpTo count contexts = (i : ℕ) → (contexts i).serial ≤ count

-- No ledger has a last serial above the count of entries; a call that has begun and is in no entry yet has one more at most.
pub record SerialsHold (b : Board) (count : ℕ) : Type 0 where
  pub lasts : LastsUpTo count b.seen
  pub serials : SerialsUpTo (count + 1) b.context
