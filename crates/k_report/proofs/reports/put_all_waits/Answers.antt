use Rattle.std.specs.Prelude.{codes}
use Rattle.std.proofs.lemmas.Result.{err_from_is_err_and}
use Rattle.k_outside.proofs.Texts.{front_first, puts_more}
use Rattle.k_report.specs.Waits.{waits_text}
use Rattle.k_report.proofs.reports.put_all_waits.Goals as goal

pub returns-in_err-put_all-clause-bytes : goal.returns-in_err-put_all-clause-bytes
returns-in_err-put_all-clause-bytes g c =
    let p = err_from_is_err_and c.from_residual.result c.from_residual.ensures.1 in
    rw p.1 (front_first (g.K.Sink.held c.args.sink.now) (g.K.Sink.held c.put_all.new.sink) (codes "waits\n") (waits_text c.args.marks.now c.args.links.now) c.in_err-put_all.ensures.bytes)

pub returns-clause-bytes : goal.returns-clause-bytes
returns-clause-bytes g c =
    puts_more (g.K.Sink.held c.args.sink.now) (g.K.Sink.held c.put_all.new.sink) (g.K.Sink.held c.put_waits.new.sink) c.put_waits.result (codes "waits\n") (waits_text c.args.marks.now c.args.links.now) c.in_ok-put_all.ensures.bytes c.put_waits.ensures.bytes
