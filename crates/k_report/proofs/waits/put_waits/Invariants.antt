use Rattle.std.proofs.Common.{◌≡◌}
use Rattle.k_report.specs.Waits.{waits_text}
use Rattle.k_report.proofs.Chains.{lines_from}
use Rattle.k_report.proofs.Putting.{StillToPut}
use Rattle.k_report.proofs.waits.put_waits.Given as goal

abbrev pub invariant-loop-index : goal.invariant-loop-index
invariant-loop-index g l =
    StillToPut (g.K.Sink.held l.fn.sink) (g.K.Sink.held l.sink) (waits_text l.marks l.links) (lines_from l.marks l.links l.index)
    × (g.K.Sink.faults l.sink ≡ g.K.Sink.faults l.fn.sink)
