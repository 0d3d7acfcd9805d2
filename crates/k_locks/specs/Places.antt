-- Where words, guarded data and contexts stand among others of their kind.
use Rattle.std.specs.Prelude.{ℕ, ◌+◌, ◌*◌, ◌<◌}
use Rattle.k_locks.specs.declared.locks.Lock.{Lock}
use Rattle.k_locks.specs.declared.locks.Lock.TheVariants as lock
use Rattle.k_locks.specs.declared.locks.WordName.{WordName}
use Rattle.k_locks.specs.declared.locks.WordName.TheVariants as word

-- the number of a lock: those of threads first, 0 to 63; 64 to 71 stay free, since so many carriers have contexts
abbrev pub lock_number : Lock → ℕ
lock_number (lock.Thread number) = number
lock_number lock.Table = 72
lock_number lock.Ready = 73

-- The words stand interleaved by number, four of each: state, mail, lock and context.
abbrev pub index_of : WordName → ℕ
index_of (word.State number) = 4 * number
index_of (word.Mail number) = 4 * number + 1
index_of (word.Lock l) = 4 * lock_number l + 2
index_of (word.Context number) = 4 * number + 3

-- What a lock guards lies at an even place, a context at an odd one.
abbrev pub home_of : Lock → ℕ
home_of l = 2 * lock_number l

abbrev pub slot_of : ℕ → ℕ
slot_of number = 2 * number + 1

-- a lock that there is
abbrev pub IsLock : Lock → Type 0
IsLock lock.Table = Unit {0}
IsLock (lock.Thread number) = number < 64
IsLock lock.Ready = Unit {0}

-- a word that there is: 64 threads have state, mail and lock words, and eight carriers have contexts too
abbrev pub IsWord : WordName → Type 0
IsWord (word.State number) = number < 64
IsWord (word.Mail number) = number < 64
IsWord (word.Lock l) = IsLock l
IsWord (word.Context number) = number < 72
