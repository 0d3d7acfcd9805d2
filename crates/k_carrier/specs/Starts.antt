-- The threads that are to be started: of each thread number, whether its first thread is to be.
use Rattle.std.specs.Prelude.{ℕ, Bool, true, false, Option, Some, None, is_some, List, replicate, slice_index_or, slice_set}
use Rattle.k_model.specs.Maps.{lowest}
use Rattle.k_locks.specs.Numbers.{presences}

-- a mask as a list of 64: bit t is 1 where number t's first thread is to be started
abbrev pub starts_in : ℕ → List Bool
starts_in mask = presences mask 64

abbrev pub no_starts : List Bool
no_starts = replicate 64 false

abbrev pub is_due : List Bool → ℕ → Bool
is_due starts number = slice_index_or starts number false

-- the lowest number whose thread is to be started
abbrev pub first_start : List Bool → Option ℕ
first_start starts = lowest (is_due starts) 64

-- whether any is
abbrev pub has_start : List Bool → Bool
has_start starts = is_some (first_start starts)

abbrev pub with_start : List Bool → ℕ → List Bool
with_start starts number = slice_set starts number true

abbrev pub without_start : List Bool → Option ℕ → List Bool
without_start starts None = starts
without_start starts (Some number) = slice_set starts number false
