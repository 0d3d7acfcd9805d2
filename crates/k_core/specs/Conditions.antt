-- When a step can be made.
use Rattle.std.specs.Prelude.{ℕ, ◌≡◌, ◌<◌, ◌^◌, IfSome, Some, length}
use Rattle.k_ids.specs.declared.histories.Entry.{Entry}
use Rattle.k_script.specs.Script.{Script}
use Rattle.k_context.specs.Contexts.{ContextSeen}
use Rattle.k_carrier.specs.declared.marks.Want.{Want}
use Rattle.k_world.specs.Lawful.{IsLawfulLog}
use Rattle.k_world.specs.Marks.{HeldUp}
use Rattle.k_world.specs.Steps.{course_in, entry_of, step_in}
use Rattle.k_world.specs.Worlds.{carrier_at}
use Rattle.k_logs.specs.Seen.{HasRoom}
use Rattle.k_places.specs.Fits.{IsEntryWithin}
use Rattle.k_running.specs.Turning.{CanFind, CanTurn, IsElsewhere, IsEntryFit}
use Rattle.k_core.specs.Parts.{ArePlaced, Parts, Recorded, world_in}

-- Code can append the entry: there is room for it, too.
pub record CanAppend (r : Recorded) (e : Entry) : Type 0 where
  pub within : IsEntryWithin (length r.serials) (Some e)
  pub serial : e.event.serial < 2 ^ 32
  pub room : length r.entries < r.capacity

-- All that code asks of a world whose carrier of this number is to make a step. The running kernel has it (laws).
pub record CanStep (script : Script) (p : Parts) (c : ℕ) : Type 0 where
  pub inside : c < length p.carriers
  pub placed : ArePlaced script p
  pub turn : CanTurn script (world_in script p) (carrier_at (world_in script p) c)
  pub entry : IfSome (entry_of (world_in script p) (step_in script c (world_in script p)))
      (λ e. IsEntryFit (world_in script p) e × (length p.recorded.entries < p.recorded.capacity))
  pub lawful : IsLawfulLog p.logs.waits
  pub standing : length p.logs.waits.standing ≡ length p.carriers
  pub room : HasRoom p.logs.room
  pub found : (v : ContextSeen) (wants : Want) (i : ℕ) →
      course_in (step_in script c (world_in script p)) ≡ HeldUp v wants i →
      CanFind script (world_in script p) i × IsElsewhere c (world_in script p) i
