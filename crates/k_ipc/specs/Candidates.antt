-- Whom a receive may take: the entries of a queue whose senders it admits, in their order.
use Rattle.std.specs.Prelude.{ℕ, ◌≡◌, ◌==◌, true, if◌then◌else◌, Option, Some, None, List, [], ◌∷◌, ◌+◌}
use Rattle.k_ids.specs.declared.threads.ThreadId.{ThreadId}
use Rattle.k_model.specs.State.{admits}
use Rattle.k_senders.specs.declared.entries.SenderEntry.{SenderEntry}
use Rattle.k_senders.specs.Entries.{number_of, sender_of}
use Rattle.k_senders.specs.Queue.{stands}

-- the first entry whose sender is admitted
abbrev pub first_admitted : Option ThreadId → List SenderEntry → Option SenderEntry
first_admitted from [] = None
first_admitted from (e ∷ es) = if admits from (sender_of e) then Some e else first_admitted from es

-- how many senders are admitted
abbrev pub admitted : Option ThreadId → List SenderEntry → ℕ
admitted from [] = 0
admitted from (e ∷ es) = (if admits from (sender_of e) then 1 else 0) + admitted from es

-- the entries after the one of a number
abbrev pub past : ℕ → List SenderEntry → List SenderEntry
past n [] = []
past n (e ∷ es) = if number_of e == n then es else past n es

-- the entries from the one of a number on
abbrev pub onward : ℕ → List SenderEntry → List SenderEntry
onward n [] = []
onward n (e ∷ es) = if number_of e == n then e ∷ es else onward n es

-- the entries from a link on
abbrev pub linked : Option ℕ → List SenderEntry → List SenderEntry
linked None es = []
linked (Some n) es = onward n es

-- a link leads to an entry, or to the end
abbrev pub IsLink : Option ℕ → List SenderEntry → Type 0
IsLink None es = Unit {0}
IsLink (Some n) es = stands n es ≡ true
