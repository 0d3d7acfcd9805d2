-- What a step has to be so that what it finds in the raw world is what it may find on the board.
use Rattle.std.specs.Prelude.{◌≡◌, ◌<◌, ◌^◌}
use Rattle.k_ids.specs.declared.context_word.ContextWord.TheVariants.{Clean, Empty}
use Rattle.k_ids.specs.ContextWords.{context_bits}
use Rattle.k_ids.specs.StateWords.{IsStateWord}
use Rattle.k_locks.specs.Asks.{Ask}
use Rattle.k_locks.specs.Asks as asks
use Rattle.k_board.specs.Boards.{Board}
use Rattle.k_board.specs.Steps.{Holds}
use Rattle.k_places.specs.Memory.{Memory}
use Rattle.k_places.specs.Shows.{IsLockOf}

-- The words that it writes or expects have spellings, a lock is one that there is, a context is placed where there is none,
-- and one that is removed holds no lock where its word says so.
abbrev pub IsAskFit : Memory → Board → Ask → Type 0
IsAskFit m b (asks.Load n) = Unit {0}
IsAskFit m b (asks.LoadMail n) = Unit {0}
IsAskFit m b (asks.Post n message) = message.low < 2 ^ 32
IsAskFit m b (asks.Exchange n old new) = IsStateWord old × IsStateWord new
IsAskFit m b (asks.Acquire l) = IsLockOf b.size l
IsAskFit m b (asks.Release l) = IsLockOf b.size l
IsAskFit m b (asks.Place id program priority) = m.context id.number ≡ context_bits Empty
IsAskFit m b (asks.Remove id) = m.context id.number ≡ context_bits (Clean id.version) → Holds b id.number
