use Rattle.std.proofs.Common.{ap, ◌∙◌}
use Rattle.k_locks.specs.Numbers.{without_thread}
use Rattle.k_locks.proofs.Presences.{shown_without}
use Rattle.k_locks.proofs.numbers.Numbers.without_thread.Goals as goal

pub returns : goal.returns
returns c =
    let f = c.self.inside in
    shown_without f.versions f.present f.count c.args.number c.self.invariant c.requires ∙ ap (without_thread c.args.number) c.self.view_is
