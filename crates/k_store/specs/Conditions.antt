-- When a store can perform a move: its word and slot are among those that there are, and what the store has there is of the kind
-- that the move takes it for. There are 74 numbers (k_locks), with four words and two slots each.
use Rattle.std.specs.Prelude.{ℕ, ◌≡◌, ◌<◌, List, slice_index_or}
use Rattle.k_ids.specs.declared.lock_word.LockWord.TheVariants.{Free}
use Rattle.k_ids.specs.ContextWords.{IsContextSpelling}
use Rattle.k_ids.specs.LockWords.{IsLockSpelling, lock_bits}
use Rattle.k_ids.specs.StateWords.{IsPartner}
use Rattle.k_locks.specs.declared.locks.WordName.{WordName}
use Rattle.k_locks.specs.declared.locks.WordName.TheVariants as word
use Rattle.k_locks.specs.declared.locks.Lock.{Lock}
use Rattle.k_locks.specs.declared.steps.Step.{Step}
use Rattle.k_locks.specs.declared.steps.Step.TheVariants as step
use Rattle.k_locks.specs.Places.{home_of, index_of, lock_number}
use Rattle.k_carrier.specs.Moves.{MoveSeen}
use Rattle.k_carrier.specs.Moves as move
use Rattle.k_world.specs.Worlds.{Slot, Guarded, Resting, Away}

abbrev pub found_at : List ℕ → WordName → ℕ
found_at words name = slice_index_or words (index_of name) 0

-- The word is one of those that there are.
abbrev pub IsInside : WordName → Type 0
IsInside name = index_of name < 296

-- the number of a context, or of a lock
abbrev pub IsNumber : ℕ → Type 0
IsNumber n = n < 74

-- what a lock guards lies there
abbrev pub IsHome : Slot → Type 0
IsHome (Guarded goods) = Unit {0}
IsHome (Resting value) = ⊥
IsHome Away = ⊥

-- A lock that the context of this number can acquire: its word is one of a lock, and where it is free, what it guards is at home.
pub record CanAcquire (words : List ℕ) (slots : List Slot) (i : ℕ) (l : Lock) : Type 0 where
  pub owner : i < 72
  pub lock : IsNumber (lock_number l)
  pub spelled : IsLockSpelling (found_at words (word.Lock l))
  pub home : found_at words (word.Lock l) ≡ lock_bits Free → IsHome (slice_index_or slots (home_of l) Away)

abbrev pub CanStep : List ℕ → List Slot → ℕ → Step → Type 0
CanStep words slots i (step.Load name) = IsInside name
CanStep words slots i (step.Store name value) = IsInside name
CanStep words slots i (step.Exchange name old new) = IsInside name
CanStep words slots i (step.Acquire l) = CanAcquire words slots i l
CanStep words slots i (step.Release l goods) = IsNumber (lock_number l)
CanStep words slots i (step.Place id program priority) = IsPartner id × (priority < 64)
CanStep words slots i (step.Remove id) = IsPartner id × IsContextSpelling (found_at words (word.Context id.number))

abbrev pub CanPerform : List ℕ → List Slot → ℕ → MoveSeen → Type 0
CanPerform words slots i (move.Section s) = CanStep words slots i s
CanPerform words slots i (move.Look n) = IsNumber n
CanPerform words slots i (move.TakeContext n old new) = IsNumber n
CanPerform words slots i (move.GiveContext n new value) = IsNumber n
