-- What a move has to be so that there is a place for all that it changes.
use Rattle.std.specs.Prelude.{◌≡◌, ℕ, ◌<◌, Option, Some, None, length}
use Rattle.k_ids.specs.declared.calls.Outcome.{Outcome}
use Rattle.k_ids.specs.declared.calls.Outcome.TheVariants as outcome
use Rattle.k_ids.specs.declared.histories.Entry.{Entry}
use Rattle.k_locks.specs.Places.{IsWord}
use Rattle.k_world.specs.Moves.{word_on}
use Rattle.k_world.specs.Steps.{CarrierStep, entry_of}
use Rattle.k_world.specs.Worlds.{World}

abbrev pub IsMadeWithin : ℕ → Outcome → Type 0
IsMadeWithin size (outcome.Made id) = id.number < size
IsMadeWithin size o = Unit {0}

-- the entry is of numbers that have a last serial
abbrev pub IsEntryWithin : ℕ → Option Entry → Type 0
IsEntryWithin size None = Unit {0}
IsEntryWithin size (Some e) = (e.event.who.number < size) × IsMadeWithin size e.outcome

-- The world has its sizes, the carrier is one of its own, and the word and the entry are of numbers that there are.
pub record IsStepWithin (w : World) (s : CarrierStep) : Type 0 where
  pub words : length w.words ≡ 296
  pub slots : length w.slots ≡ 148
  pub carrier : s.number < length w.carriers
  pub word : IsWord (word_on s.move)
  pub entry : IsEntryWithin (length w.serials) (entry_of w s)
