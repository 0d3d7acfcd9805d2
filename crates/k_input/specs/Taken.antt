-- What was taken of a source.
use Rattle.std.specs.Prelude.{◌≡◌, ◌≤◌, ◌<◌, ◌+◌, ℕ, List, [], ◌++◌, length, drop, Option, Some, IfSome}

-- as many bytes as a script may have
abbrev pub most_bytes : ℕ
most_bytes = 1048576

-- These bytes were taken, and the rest is left, where the source tells its bytes.
abbrev pub IsTaken : Option (List ℕ) → Option (List ℕ) → List ℕ → Type 0
IsTaken before after bytes = IfSome before (λ given. (rest : List ℕ) × (after ≡ Some rest) × (given ≡ bytes ++ rest))

-- All bytes that were left were taken, and these are they.
abbrev pub IsAll : Option (List ℕ) → Option (List ℕ) → List ℕ → Type 0
IsAll before after bytes = IfSome before (λ given. (given ≡ bytes) × (after ≡ Some []))

-- So many bytes were taken, at most this many.
abbrev pub IsPartTaken : ℕ → Option (List ℕ) → Option (List ℕ) → Type 0
IsPartTaken most before after = IfSome before (λ given. (count : ℕ) × (count ≤ most) × (after ≡ Some (drop count given)))

-- More bytes were left than a script may have, and one more than that was taken.
abbrev pub IsTooMuch : Option (List ℕ) → Option (List ℕ) → Type 0
IsTooMuch before after = IfSome before (λ given. (most_bytes < length given) × (after ≡ Some (drop (most_bytes + 1) given)))
