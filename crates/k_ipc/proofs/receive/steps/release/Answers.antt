use Rattle.k_senders.specs.Entries.{number_of}
use Rattle.k_ipc.proofs.Scanned.{entry_stands}
use Rattle.k_ipc.proofs.receive.steps.release.Goals as goal

pub take_number-requires : goal.take_number-requires
take_number-requires c =
    let h = rw c.in-Taken.is at c.requires in
    rw c.number.ensures.number (entry_stands (number_of c.in-Taken.entry) c.args.queue.entries c.in-Taken.entry h.standing)
