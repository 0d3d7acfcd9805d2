use Rattle.std.proofs.Common.{◌<◌, length, sym, subst}
use Rattle.k_model.specs.State.{KernelState, Place}
use Rattle.k_model.proofs.Maps.{upd_cases}
use Rattle.k_machine.specs.Machine.{state_of}
use Rattle.k_machine.proofs.table.Table.queue.Goals as goal

pub append-requires-clause-room : goal.append-requires-clause-room
append-requires-clause-room c =
    let k = state_of c.args.self.now.lists in
    let to = c.args.to.number in
    subst (λ (m : KernelState). length (m.place to).waiting < 64) (sym c.set_sending.ensures.state)
    (upd_cases (λ (p : Place). length p.waiting < 64) k.place c.args.me.number _ to (λ _. c.requires.room c.args.me.number) (λ _. c.requires.room to))
