-- Lock words: 0 is free, and 1 to 72 is owned by the context of the number one less.
use Rattle.std.specs.Prelude.{ℕ, ◌+◌, ◌-◌, ◌<◌, ◌≤◌, ◌==◌, if◌then◌else◌}
use Rattle.k_ids.specs.declared.lock_word.LockWord.{LockWord}
use Rattle.k_ids.specs.declared.lock_word.LockWord.TheVariants.{Free, Owned}

unfoldable pub lock_bits : LockWord → ℕ
lock_bits Free = 0
lock_bits (Owned context) = context + 1

-- There are 72 contexts: one for each thread number, and one for each of eight carriers.
abbrev pub IsLockWord : LockWord → Type 0
IsLockWord Free = Unit {0}
IsLockWord (Owned context) = context < 72

-- The word of these bits. It is total: bits that are no spelling give some word all the same.
unfoldable pub lock_word_of : ℕ → LockWord
lock_word_of n = if n == 0 then Free else Owned (n - 1)

-- These bits are the spelling of a word.
abbrev pub IsLockSpelling : ℕ → Type 0
IsLockSpelling n = n ≤ 72
