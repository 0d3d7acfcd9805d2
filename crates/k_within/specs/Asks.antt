-- A step of which the numbers are those of a table.
use Rattle.std.specs.Prelude.{ℕ, ◌<◌}
use Rattle.k_locks.specs.Asks.{Ask}
use Rattle.k_locks.specs.Asks as asks
use Rattle.k_places.specs.Shows.{IsLockOf}

-- whose word it is on, or which lock it is about, or whose context, in a table of this size
abbrev pub IsAskWithin : ℕ → Ask → Type 0
IsAskWithin size (asks.Load n) = n < size
IsAskWithin size (asks.LoadMail n) = n < size
IsAskWithin size (asks.Post n message) = n < size
IsAskWithin size (asks.Exchange n old new) = n < size
IsAskWithin size (asks.Acquire l) = IsLockOf size l
IsAskWithin size (asks.Release l) = IsLockOf size l
IsAskWithin size (asks.Place id program priority) = id.number < size
IsAskWithin size (asks.Remove id) = id.number < size
