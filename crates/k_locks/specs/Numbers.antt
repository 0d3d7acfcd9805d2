-- The list of thread numbers that the table lock guards: which have a thread, and of which version.
use Rattle.std.specs.Prelude.{ℕ, ◌+◌, ◌==◌, nat_lt, Bool, true, false, ◌&&◌, not, Option, List, length, map, slice_index_or, slice_set}
use Rattle.std.specs.Int.{bit_at}
use Rattle.std.specs.List.{range_with_len}
use Rattle.k_model.specs.Maps.{lowest, count}
use Rattle.k_model.specs.Step.{last_version}

-- What contracts see, for each number of the table: the version of the thread that has it, or had it last, and whether it has one.
pub record ThreadNumbers : Type 0 where
  pub versions : List ℕ
  pub present : List Bool

-- a mask as a list: bit t is 1 where number t has a thread
abbrev pub presences : ℕ → ℕ → List Bool
presences mask count = map (λ number. bit_at mask number == 1) (range_with_len 0 count)

-- the version of the thread that has the number, or had it last; 0 where it has had none
abbrev pub version_at : ThreadNumbers → ℕ → ℕ
version_at numbers number = slice_index_or numbers.versions number 0

-- whether the number has a thread
abbrev pub is_present : ThreadNumbers → ℕ → Bool
is_present numbers number = slice_index_or numbers.present number false

-- whether a new thread may get the number
abbrev pub is_free : ThreadNumbers → ℕ → Bool
is_free numbers number = not (is_present numbers number) && nat_lt (version_at numbers number) last_version

-- whether the number has had its last thread
abbrev pub is_worn : ThreadNumbers → ℕ → Bool
is_worn numbers number = not (is_present numbers number) && (version_at numbers number == last_version)

-- the lowest number that a new thread may get
abbrev pub lowest_free : ThreadNumbers → Option ℕ
lowest_free numbers = lowest (is_free numbers) (length numbers.versions)

-- how many numbers have a thread
abbrev pub alive : ThreadNumbers → ℕ
alive numbers = count (is_present numbers) (length numbers.versions)

-- how many numbers have none, and can have no more
abbrev pub worn : ThreadNumbers → ℕ
worn numbers = count (is_worn numbers) (length numbers.versions)

-- The number gets a new thread, of the next version.
abbrev pub with_thread : ℕ → ThreadNumbers → ThreadNumbers
with_thread number numbers = record {
  versions = slice_set numbers.versions number (version_at numbers number + 1);
  present = slice_set numbers.present number true;
}

-- The number's thread is no more.
abbrev pub without_thread : ℕ → ThreadNumbers → ThreadNumbers
without_thread number numbers = record numbers { present = slice_set numbers.present number false }
