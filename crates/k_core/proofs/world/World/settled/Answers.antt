use Rattle.std.proofs.Common.{◌≡◌, get_or, sym, ap, ◌∙◌}
use Rattle.k_carrier.specs.Flags.{is_settled}
use Rattle.k_core.proofs.Moved.{carrier_is}
use Rattle.k_core.proofs.world.World.settled.Goals as goal

pub returns : goal.returns
returns c = λ script.
    let read : c.index.result.now ≡ get_or c.args.self.now.carriers c.args.c c.index.result.now =
    rw (← c.self.view_is, ← c.from.ensures) c.index.ensures in
    c.settled.ensures script ∙ ap is_settled
    (sym (carrier_is script c.args.self.now c.args.c c.index.result.now c.requires read))
