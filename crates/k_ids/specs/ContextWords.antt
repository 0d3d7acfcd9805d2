-- Context words: bits 0 to 1 code, 2 to 5 the carrier that has taken the context, 6 to 25 the version of its thread. All other
-- bits are zero.
use Rattle.std.specs.Prelude.{ℕ, ◌≡◌, ◌+◌, ◌*◌, ◌/◌, ◌%◌, ◌^◌, ◌<◌, ◌≤◌, ◌==◌, if◌then◌else◌}
use Rattle.k_ids.specs.declared.context_word.ContextWord.{ContextWord}
use Rattle.k_ids.specs.declared.context_word.ContextWord.TheVariants.{Empty, Clean, Holds, Taken}

unfoldable pub context_bits : ContextWord → ℕ
context_bits Empty = 0
context_bits (Clean version) = 1 + 2 ^ 6 * version
context_bits (Holds version) = 2 + 2 ^ 6 * version
context_bits (Taken carrier version) = 3 + 2 ^ 2 * carrier + 2 ^ 6 * version

-- A context's thread has a version of at least 1. A carrier's own context has version 1.
pub record IsVersion (version : ℕ) : Type 0 where
  pub born : 1 ≤ version
  pub small : version < 2 ^ 20

-- There are eight carriers at most.
abbrev pub IsContextWord : ContextWord → Type 0
IsContextWord Empty = Unit {0}
IsContextWord (Clean version) = IsVersion version
IsContextWord (Holds version) = IsVersion version
IsContextWord (Taken carrier version) = (carrier < 8) × IsVersion version

abbrev pub context_from : ℕ → ℕ → ℕ → ContextWord
context_from code carrier version = if code == 1 then Clean version
    else (if code == 2 then Holds version else (if code == 3 then Taken carrier version else Empty))

-- The word of these bits. It is total: bits that are no spelling give some word all the same.
unfoldable pub context_word_of : ℕ → ContextWord
context_word_of n = context_from (n % 4) (n / 2 ^ 2 % 16) (n / 2 ^ 6 % 2 ^ 20)

-- These bits are the spelling of a word.
pub record IsContextSpelling (n : ℕ) : Type 0 where
  pub whole : IsContextWord (context_word_of n)
  pub same : context_bits (context_word_of n) ≡ n
