-- The front of a queue of senders.
use Rattle.std.specs.Prelude.{ℕ, ◌==◌, if◌then◌else◌, List, [], ◌∷◌}
use Rattle.k_senders.specs.declared.entries.SenderEntry.{SenderEntry}
use Rattle.k_senders.specs.Entries.{number_of}

-- the entries before the one of a number
abbrev pub before : ℕ → List SenderEntry → List SenderEntry
before n [] = []
before n (e ∷ es) = if number_of e == n then [] else e ∷ before n es
