-- The measure of a burst in four parts, each of which counts more than all that come after it.
use Rattle.std.specs.Prelude.{ℕ, ◌≤◌, ◌<◌, ◌⊎◌}

pub record Parts : Type 0 where
  -- how many entries the history has room for
  pub room : ℕ
  -- how many exchanges are still to come that change a state word, and after which no entry is made
  pub owed : ℕ
  -- how many steps of sections all contexts make while no state word changes, with those of the switches to come
  pub steps : ℕ
  -- how many moves the carrier is from the next of these steps
  pub near : ℕ

-- One part falls, and none before it rises.
abbrev pub Falls : Parts → Parts → Type 0
Falls p q = (q.room < p.room)
    ⊎ ((q.room ≤ p.room) × (q.owed < p.owed))
    ⊎ ((q.room ≤ p.room) × (q.owed ≤ p.owed) × (q.steps < p.steps))
    ⊎ ((q.room ≤ p.room) × (q.owed ≤ p.owed) × (q.steps ≤ p.steps) × (q.near < p.near))
