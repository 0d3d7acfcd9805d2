use Rattle.std.proofs.Common.{subst, sym}
use Rattle.fiasco_run.specs.Served.{IsPut}
use Rattle.fiasco_run.proofs.serve.put_due.Goals as goal

pub returns-in-Summary-clause-put : goal.returns-in-Summary-clause-put
returns-in-Summary-clause-put g c = subst (λ d. IsPut c.put_summary.result d (g.K.Sink.held c.args.sink.now) (g.K.Sink.held c.put_summary.new.sink) (g.K.Sink.faults c.args.sink.now) (g.K.Sink.faults c.put_summary.new.sink)) (sym c.in-Summary.is) c.put_summary.ensures.put
