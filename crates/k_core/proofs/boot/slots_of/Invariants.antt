use Rattle.std.proofs.Common.{◌≡◌, ◌*◌, length}
use Rattle.std.specs.List.{All, flat_map, range_with_len}
use Rattle.k_world.specs.Boot.{boot_slots}
use Rattle.k_store.specs.Stores.{IsSlotPlaced, slots_in}
use Rattle.k_core.proofs.boot.slots_of.Given as goal

abbrev pub invariant-loop-number : goal.invariant-loop-number
invariant-loop-number l =
    (slots_in l.script l.slots.items ≡ flat_map (boot_slots l.script l.carriers) (range_with_len 0 l.number))
    × (length l.slots.items ≡ 2 * l.number) × All (IsSlotPlaced l.script) l.slots.items
