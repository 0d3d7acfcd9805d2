use Rattle.k_senders.specs.Entries.{number_of}
use Rattle.k_ipc.proofs.Scanned.{entry_stands}
use Rattle.k_ipc.proofs.candidates.count_from.Goals as goal

pub count-requires : goal.count-requires
count-requires c = rw c.number.ensures.number (entry_stands (number_of c.args.entry) c.args.queue.now.entries c.args.entry c.requires)
