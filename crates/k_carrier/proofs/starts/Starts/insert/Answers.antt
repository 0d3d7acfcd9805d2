use Rattle.std.proofs.Common.{ap, ◌∙◌, Bool, List}
use Rattle.k_locks.proofs.Presences.{presence_set}
use Rattle.k_carrier.specs.Starts.{with_start}
use Rattle.k_carrier.proofs.starts.Starts.insert.Goals as goal

pub returns : goal.returns
returns c = presence_set c.self.inside.mask 64 c.args.number c.requires ∙ ap (λ (s : List Bool). with_start s c.args.number) c.self.view_is
