use Rattle.std.proofs.Common.{◌≡◌, List, [], ◌∷◌, ◌++◌, length, sym, ap, ◌∙◌}
use Rattle.std.proofs.lemmas.List.Elements.{All-same}
use Rattle.k_world.specs.Boot.{boot_resting, boot_slots}
use Rattle.k_world.specs.Worlds as worlds
use Rattle.k_store.specs.declared.slots.Slot.{Slot}
use Rattle.k_store.specs.Stores.{IsSlotPlaced, slot_in, slots_in}
use Rattle.k_core.proofs.Boots.{two_hold, two_more, two_size}
use Rattle.k_core.proofs.boot.slots_of.Goals as goal

pub loop-number-preserved : goal.loop-number-preserved
loop-number-preserved c =
    let script = c.args.script.now in
    let n = c.loop-number.number in
    let home : Slot = c.in_ok-home_at.field-0 in
    let rest : Slot = c.resting_at.result in
    let two : c.push-in-loop-number.new.self.items ≡ (c.loop-number.slots.items ++ home ∷ []) ++ rest ∷ [] =
    c.in_ok-push-2.ensures.items ∙ ap (λ (xs : List Slot). xs ++ rest ∷ []) c.in_ok-push.ensures.items in
    let piece : boot_slots script c.args.carriers n ≡ slot_in script home ∷ slot_in script rest ∷ [] =
    ap (λ (x : worlds.Slot). x ∷ boot_resting script c.args.carriers n ∷ [])
    (sym c.in_ok-home_at.ensures.home) ∙ ap (λ (x : worlds.Slot). slot_in script home ∷ x ∷ [])
    (sym c.resting_at.ensures.slot) in (
      ap (slots_in script) two ∙ two_more (slot_in script) (boot_slots script c.args.carriers) n
          c.loop-number.slots.items home rest c.loop-number.invariant.0 piece,
      ap length two ∙ two_size c.loop-number.slots.items home rest n c.loop-number.invariant.1,
      All-same (IsSlotPlaced script) c.push-in-loop-number.new.self.items
          ((c.loop-number.slots.items ++ home ∷ []) ++ rest ∷ []) two
          (two_hold (IsSlotPlaced script) c.loop-number.slots.items home rest c.loop-number.invariant.2
          c.in_ok-home_at.ensures.placed c.resting_at.ensures.placed),
    )
