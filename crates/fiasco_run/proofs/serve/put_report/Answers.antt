use Rattle.std.proofs.Common.{Bool, inl, inr, refl, subst}
use Rattle.k_outside.specs.Outside.{Appends, AppendsFront}
use Rattle.k_report.specs.Report.{Reported, report_text}
use Rattle.fiasco_run.specs.Reported.{reported}
use Rattle.fiasco_run.proofs.serve.put_report.Goals as goal

pub returns-in-Ok-clause-put : goal.returns-in-Ok-clause-put
returns-in-Ok-clause-put g c =
    let held = g.K.Sink.held c.args.sink.now in
    let holds = g.K.Sink.held c.report.new.sink in
    let parts = subst (λ (r : Reported). Appends held holds (report_text c.show_steps.result r)) c.parts_of.ensures c.in-Ok.ensures.bytes in
    inl (refl, subst (λ (show : Bool). Appends held holds (report_text show (reported c.args.ran.now.end))) c.show_steps.ensures parts, c.in-Ok.ensures.cause.calm)

pub returns-in-Err-clause-put : goal.returns-in-Err-clause-put
returns-in-Err-clause-put g c =
    let held = g.K.Sink.held c.args.sink.now in
    let holds = g.K.Sink.held c.report.new.sink in
    let parts = subst (λ (r : Reported). AppendsFront held holds (report_text c.show_steps.result r)) c.parts_of.ensures c.in-Err.ensures.bytes in
    inr (refl, subst (λ (show : Bool). AppendsFront held holds (report_text show (reported c.args.ran.now.end))) c.show_steps.ensures parts, c.in-Err.ensures.cause.failed)
