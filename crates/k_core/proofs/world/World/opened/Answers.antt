use Rattle.std.proofs.Common.{List, replicate, refl, sym, subst, ap, ◌∙◌}
use Rattle.k_store.specs.declared.slots.Slot.{Slot}
use Rattle.k_store.specs.Stores.{IsSlotPlaced, slot_at, slots_in}
use Rattle.k_world.specs.Boot.{booted}
use Rattle.k_core.specs.Parts.{Parts, world_in}
use Rattle.k_core.proofs.Homes.{all_rest}
use Rattle.k_core.proofs.Moved.{same_world}
use Rattle.k_core.proofs.world.World.opened.Goals as goal

pub returns-clause-world : goal.returns-clause-world
unfolding booted
returns-clause-world c =
    let script = c.args.script.now in
    let p : Parts = record {
      store = c.of.result;
      carriers = c.in_ok-carriers_of.field-0.items;
      unstarted = c.in_ok-unstarted_of.field-0.items;
      recorded = c.in_ok-opened.field-0;
      logs = c.in_ok-opened-2.field-0;
      made = 0;
    } in
    same_world (world_in script p) (booted script c.args.carriers) (c.of.ensures.words
    ∙ c.in_ok-words.ensures) (ap (slots_in script) c.of.ensures.slots ∙ c.in_ok-slots.ensures.slots)
    c.in_ok-carriers_of.ensures.carriers
    (c.in_ok-opened.ensures.serials ∙ ap (λ n. replicate n 0) c.table.ensures) c.in_ok-unstarted_of.ensures
    refl c.in_ok-opened.ensures.entries c.in_ok-opened-2.ensures.steps c.in_ok-opened-2.ensures.waits

pub returns-clause-placed : goal.returns-clause-placed
returns-clause-placed c =
    let script = c.args.script.now in
    record {
      store = record {
        rests = λ place. subst (λ (xs : List Slot). IsSlotPlaced script (slot_at xs place))
            (sym c.of.ensures.slots) (all_rest script c.in_ok-slots.slots.items c.in_ok-slots.ensures.placed
            place);
      };
      carriers = c.in_ok-carriers_of.ensures.placed;
    }
