use Rattle.std.proofs.Common.{ap, ◌∙◌, Bool, List, Some, arith}
use Rattle.k_locks.proofs.Presences.{presence_cleared}
use Rattle.k_carrier.specs.Starts.{without_start}
use Rattle.k_carrier.proofs.starts.Starts.remove.Goals as goal

pub returns : goal.returns
returns c = presence_cleared c.self.inside.mask 64 c.args.number c.requires (omega arith) ∙ ap (λ (s : List Bool). without_start s (Some c.args.number)) c.self.view_is
