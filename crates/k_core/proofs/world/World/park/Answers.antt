use Rattle.std.proofs.Common.{◌≡◌, ◌<◌, length, get_or, refl, sym, subst, ap, ◌∙◌}
use Rattle.std.specs.List.{slice_set}
use Rattle.k_carrier.specs.declared.carrier.Carrier.{Carrier}
use Rattle.k_carrier.specs.Seen as carriers
use Rattle.k_world.specs.Steps.{parked}
use Rattle.k_core.specs.Parts.{Parts, world_in}
use Rattle.k_core.specs.Running.{IsRunning}
use Rattle.k_core.proofs.Steps.{placed_at, placed_with}
use Rattle.k_core.proofs.Moved.{parked_is}
use Rattle.k_core.proofs.world.World.park.Goals as goal

pub returns-clause-world : goal.returns-clause-world
returns-clause-world c = λ script.
    let p : Parts = record {
      store = c.self.inside.store;
      carriers = c.self.inside.carriers.items;
      unstarted = c.self.inside.unstarted.items;
      recorded = c.self.inside.history;
      logs = c.self.inside.logs;
      made = c.self.inside.made;
    } in
    let inside : c.args.c < length p.carriers = subst (λ (q : Parts). c.args.c < length q.carriers)
    (sym c.self.view_is) c.requires in
    let read : c.index_mut.result.now ≡ get_or p.carriers c.args.c c.index_mut.result.now =
    rw (← c.from.ensures) c.index_mut.ensures.value in
    parked_is script p c.args.c c.from.result c.index_mut.result.now c.park.new.self inside read
    c.from.ensures (c.park.ensures.carrier script)
    ∙ ap (λ (q : Parts). parked c.args.c (world_in script q)) c.self.view_is

pub returns-clause-running : goal.returns-clause-running
returns-clause-running c = λ script limits h.
    let p : Parts = record {
      store = c.self.inside.store;
      carriers = c.self.inside.carriers.items;
      unstarted = c.self.inside.unstarted.items;
      recorded = c.self.inside.history;
      logs = c.self.inside.logs;
      made = c.self.inside.made;
    } in
    let x : Carrier = c.index_mut.result.now in
    let y : Carrier = c.park.new.self in
    let runs : IsRunning script p = subst (λ (q : Parts). IsRunning script q) (sym c.self.view_is) h in
    let inside : c.args.c < length p.carriers = subst (λ (q : Parts). c.args.c < length q.carriers)
    (sym c.self.view_is) c.requires in
    let read : x ≡ get_or p.carriers c.args.c x = rw (← c.from.ensures) c.index_mut.ensures.value in
    let placed : carriers.IsPlaced script y =
    c.park.ensures.placed script (placed_at script p c.args.c x runs.placed inside read) in
    c.what_comes_from_outside_goes_on.ensures.park script p
    (record p { carriers = slice_set p.carriers c.from.result y }) c.args.c limits runs inside
    (parked_is script p c.args.c c.from.result x y inside read c.from.ensures (c.park.ensures.carrier script))
    (placed_with script p c.from.result y runs.placed placed) refl
