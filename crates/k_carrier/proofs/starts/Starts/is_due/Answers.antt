use Rattle.std.proofs.Common.{ap, sym, ◌∙◌, Bool, List}
use Rattle.k_locks.proofs.Presences.{is_bit, presence_at}
use Rattle.k_carrier.specs.Starts.{is_due}
use Rattle.k_carrier.proofs.starts.Starts.is_due.Goals as goal

pub returns : goal.returns
returns c =
    let mask = c.self.inside.mask in
    is_bit mask c.args.number ∙ sym (presence_at mask 64 c.args.number c.requires) ∙ ap (λ (s : List Bool). is_due s c.args.number) c.self.view_is
