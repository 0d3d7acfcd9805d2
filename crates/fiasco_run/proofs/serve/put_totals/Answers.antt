use Rattle.std.proofs.Common.{List, length, subst, ◌∙◌, ℕ}
use Rattle.std.specs.List.{count_by}
use Rattle.std.proofs.lemmas.Result.{err_from_is_err_and}
use Rattle.k_calls.specs.Calls.{is_helped}
use Rattle.k_outside.specs.Outside.{Appends, AppendsFront, PutsAll}
use Rattle.k_outside.proofs.Texts.{front_first, puts_more}
use Rattle.k_report.specs.Report.{Reported, total_text}
use Rattle.fiasco_run.specs.Reported.{big_text, reported}
use Rattle.fiasco_run.proofs.serve.put_totals.Goals as goal

abbrev totals : Reported → List ℕ
totals r = total_text (length r.history) r.made (count_by is_helped r.steps)

pub returns-in_err-put_all-clause-bytes : goal.returns-in_err-put_all-clause-bytes
returns-in_err-put_all-clause-bytes g c =
    let held = g.K.Sink.held c.args.sink.now in
    let holds = g.K.Sink.held c.put_all.new.sink in
    let first = subst (λ (text : List ℕ). AppendsFront held holds text) (c.as_bytes.ensures.text ∙ c.big_line.ensures) c.in_err-put_all.ensures.bytes in
    let p = err_from_is_err_and c.from_residual.result c.from_residual.ensures.1 in
    rw p.1 (front_first held holds (big_text c.args.number) (totals (reported c.args.end.now)) first)

pub returns-clause-bytes : goal.returns-clause-bytes
returns-clause-bytes g c =
    let held = g.K.Sink.held c.args.sink.now in
    let first = g.K.Sink.held c.put_all.new.sink in
    let holds = g.K.Sink.held c.put_total.new.sink in
    let line = subst (λ (text : List ℕ). Appends held first text) (c.as_bytes.ensures.text ∙ c.big_line.ensures) c.in_ok-put_all.ensures.bytes in
    let last = subst (λ (r : Reported). PutsAll first holds c.put_total.result (totals r)) c.parts_of.ensures c.put_total.ensures.bytes in
    puts_more held first holds c.put_total.result (big_text c.args.number) (totals (reported c.args.end.now)) line last
