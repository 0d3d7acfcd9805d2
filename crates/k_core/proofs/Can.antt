-- What code asks of a step, from what holds of the world and of the parts that show it.
use Rattle.std.proofs.Common.{◌≡◌, ℕ, ◌≤◌, ◌<◌, List, [], ◌∷◌, length, Option, Some, None, arith}
use Rattle.std.specs.Prelude.{IfSome}
use Rattle.std.proofs.lemmas.List.{length-append}
use Rattle.k_ids.specs.declared.histories.Entry.{Entry}
use Rattle.k_script.specs.Script.{Script}
use Rattle.k_world.specs.Lawful.{IsLawfulLog}
use Rattle.k_world.specs.Steps.{entry_of, moved, recorded, step_in}
use Rattle.k_world.specs.Worlds.{World, carrier_at}
use Rattle.k_logs.specs.Seen.{HasRoom}
use Rattle.k_running.specs.Turning.{CanTurn, IsEntryFit}
use Rattle.k_core.specs.Conditions.{CanStep}
use Rattle.k_core.specs.Parts.{ArePlaced, Parts, world_in}
use Rattle.k_core.proofs.Moved.{MayFind}

-- There is room for an entry where there is room for the history with it.
fits_in : (w : World) (o : Option Entry) (h : List Entry) (most capacity : ℕ) → length (recorded o h) ≤ most →
    most ≤ capacity → IfSome o (IsEntryFit w) → IfSome o (λ e. IsEntryFit w e × (length h < capacity))
fits_in w None h most capacity l m fit = tt
fits_in w (Some e) h most capacity l m fit = (fit, omega (arith, length-append h (e ∷ []), l, m))

entry_fit : (script : Script) (p : Parts) (c most : ℕ) →
    length (moved script c (world_in script p)).history ≤ most → most ≤ p.recorded.capacity →
    IfSome (entry_of (world_in script p) (step_in script c (world_in script p)))
    (IsEntryFit (world_in script p)) →
    IfSome (entry_of (world_in script p) (step_in script c (world_in script p)))
    (λ e. IsEntryFit (world_in script p) e × (length p.recorded.entries < p.recorded.capacity))
unfolding moved
entry_fit script p c most l m fit =
    fits_in (world_in script p) (entry_of (world_in script p) (step_in script c (world_in script p)))
    p.recorded.entries most p.recorded.capacity l m fit

-- `most` is how many entries the history of any world of the run has, and there is room for so many.
pub can_step : (script : Script) (p : Parts) (c most : ℕ) → c < length p.carriers → ArePlaced script p →
    CanTurn script (world_in script p) (carrier_at (world_in script p) c) →
    IfSome (entry_of (world_in script p) (step_in script c (world_in script p)))
    (IsEntryFit (world_in script p)) →
    MayFind script (world_in script p) c (step_in script c (world_in script p)) →
    length (moved script c (world_in script p)).history ≤ most → most ≤ p.recorded.capacity →
    IsLawfulLog p.logs.waits → length p.logs.waits.standing ≡ length p.carriers → HasRoom p.logs.room →
    CanStep script p c
can_step script p c most inside placed turn fit found l m lawful standing room = record {
  inside = inside;
  placed = placed;
  turn = turn;
  entry = entry_fit script p c most l m fit;
  lawful = lawful;
  standing = standing;
  room = room;
  found = found;
}
