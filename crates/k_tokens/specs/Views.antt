-- Maps that are views of others: of what every context is about.
use Rattle.std.specs.Prelude.{ℕ, Option, Some, None}

-- what the owner of a lock is about; `none` where nobody owns it
abbrev pub by_owner : {P : Type 0} {A : Type 0} → A → (P → A) → (ℕ → P) → Option ℕ → A
by_owner none view places None = none
by_owner none view places (Some owner) = view (places owner)
