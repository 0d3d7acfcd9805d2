use Rattle.std.proofs.Common.{sym, ◌∙◌}
use Rattle.k_ipc.proofs.Scanned.{standing_entry}
use Rattle.k_ipc.proofs.candidates.entry_at.Goals as goal

pub unreachable-requires : goal.unreachable-requires
unreachable-requires c = standing_entry c.args.number c.args.queue.now.entries c.requires (sym c.entry.ensures ∙ c.in-None.is)
