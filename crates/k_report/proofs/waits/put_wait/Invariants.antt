use Rattle.k_report.specs.Waits.{wait_text}
use Rattle.k_report.proofs.Chains.{Chained}
use Rattle.k_report.proofs.waits.put_wait.Given as goal

abbrev pub invariant-loop-left : goal.invariant-loop-left
invariant-loop-left g l = Chained (g.K.Sink.held l.fn.sink) (g.K.Sink.held l.sink) (g.K.Sink.faults l.fn.sink) (g.K.Sink.faults l.sink) (wait_text l.index l.mark l.links) l.line l.links l.index l.from l.left l.mark.count

abbrev pub decreases-loop-left : goal.decreases-loop-left
decreases-loop-left g l = l.left
