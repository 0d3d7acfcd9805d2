use Rattle.std.proofs.Common.{◌≡◌, ◌<◌, length, get_or, false, true, refl, sym, subst, ap, ◌∙◌}
use Rattle.std.specs.List.{slice_set}
use Rattle.k_carrier.specs.declared.carrier.Carrier.{Carrier}
use Rattle.k_carrier.specs.Seen as carriers
use Rattle.k_carrier.specs.Starts.{is_due}
use Rattle.k_world.specs.Steps.{started}
use Rattle.k_core.specs.Parts.{Parts, world_in}
use Rattle.k_core.specs.Running.{IsRunning}
use Rattle.k_core.proofs.Steps.{placed_at, placed_started}
use Rattle.k_core.proofs.Moved.{started_is}
use Rattle.k_core.proofs.world.World.start.Goals as goal

pub returns-clause-world : goal.returns-clause-world
returns-clause-world c = λ script.
    let p : Parts = record {
      store = c.self.inside.store;
      carriers = c.self.inside.carriers.items;
      unstarted = c.self.inside.unstarted.items;
      recorded = c.self.inside.history;
      logs = c.self.inside.logs;
      made = c.self.inside.made;
    } in
    let inside : c.args.c < length p.carriers = subst (λ (q : Parts). c.args.c < length q.carriers)
    (sym c.self.view_is) c.requires.carrier in
    let read : c.index_mut-2.result.now ≡ get_or p.carriers c.args.c c.index_mut-2.result.now =
    rw (← c.from-2.ensures) c.index_mut-2.ensures.value in
    started_is script p c.args.c c.from-2.result c.args.number c.from.result c.index_mut-2.result.now
    c.start.new.self inside read c.from-2.ensures c.from.ensures (c.start.ensures.carrier script)
    ∙ ap (λ (q : Parts). started c.args.c c.args.number (world_in script q)) c.self.view_is

pub returns-clause-running : goal.returns-clause-running
returns-clause-running c = λ script limits h.
    let p : Parts = record {
      store = c.self.inside.store;
      carriers = c.self.inside.carriers.items;
      unstarted = c.self.inside.unstarted.items;
      recorded = c.self.inside.history;
      logs = c.self.inside.logs;
      made = c.self.inside.made;
    } in
    let x : Carrier = c.index_mut-2.result.now in
    let y : Carrier = c.start.new.self in
    let runs : IsRunning script p = subst (λ (q : Parts). IsRunning script q) (sym c.self.view_is) h in
    let inside : c.args.c < length p.carriers = subst (λ (q : Parts). c.args.c < length q.carriers)
    (sym c.self.view_is) c.requires.carrier in
    let due : is_due p.unstarted c.args.number ≡ true =
    subst (λ (q : Parts). is_due q.unstarted c.args.number ≡ true) (sym c.self.view_is) c.requires.waits in
    let read : x ≡ get_or p.carriers c.args.c x = rw (← c.from-2.ensures) c.index_mut-2.ensures.value in
    let placed : carriers.IsPlaced script y =
    c.start.ensures.placed script (placed_at script p c.args.c x runs.placed inside read) in
    c.what_comes_from_outside_goes_on.ensures.start script p
    (record p {
      carriers = slice_set p.carriers c.from-2.result y;
      unstarted = slice_set p.unstarted c.from.result false;
    }) c.args.c c.args.number limits runs inside due
    (started_is script p c.args.c c.from-2.result c.args.number c.from.result x y inside read c.from-2.ensures
    c.from.ensures (c.start.ensures.carrier script))
    (placed_started script p c.from-2.result c.from.result y runs.placed placed) refl
