use Rattle.std.specs.List.{flat_map}
use Rattle.std.proofs.lemmas.Result.{err_from_is_err_and}
use Rattle.k_text.specs.Texts.{final_text}
use Rattle.k_report.specs.Report.{Reported, calls_text, report_text}
use Rattle.k_report.proofs.Parts.{begun, calls_put, finals_put, from_calls, from_finals, from_replies, from_totals, from_waits, history_part, history_put, replies_part, replies_put, waits_part, waits_put}
use Rattle.k_report.proofs.Putting.{still_front, still_last}
use Rattle.k_report.proofs.reports.report.Goals as goal

pub returns-in_err-put_titled-clause-bytes : goal.returns-in_err-put_titled-clause-bytes
returns-in_err-put_titled-clause-bytes g c =
    let e = c.args.end.now in
    let r : Reported = record { history = e.history.now; replies = e.replies.now; steps = e.steps.now; calls = e.calls.now; waits = e.waits.now; links = e.links.now; finals = e.finals.now; made = e.made } in
    let s0 = g.K.Sink.held c.args.sink.now in
    let s1 = g.K.Sink.held c.put_titled.new.sink in
    let p = err_from_is_err_and c.from_residual.result c.from_residual.ensures.1 in
    rw p.1 (still_front s0 s0 s1 (report_text c.args.show r) (history_part r) (from_replies c.args.show r) (begun s0 c.args.show r) c.in_err-put_titled.ensures.bytes)

pub returns-in_err-put_titled-2-clause-bytes : goal.returns-in_err-put_titled-2-clause-bytes
returns-in_err-put_titled-2-clause-bytes g c =
    let e = c.args.end.now in
    let r : Reported = record { history = e.history.now; replies = e.replies.now; steps = e.steps.now; calls = e.calls.now; waits = e.waits.now; links = e.links.now; finals = e.finals.now; made = e.made } in
    let s0 = g.K.Sink.held c.args.sink.now in
    let s1 = g.K.Sink.held c.put_titled.new.sink in
    let after_history = history_put s0 s1 c.args.show r c.in_ok-put_titled.ensures.bytes in
    let s2 = g.K.Sink.held c.put_titled-2.new.sink in
    let p = err_from_is_err_and c.from_residual-in_err-put_titled-2.result c.from_residual-in_err-put_titled-2.ensures.1 in
    rw p.1 (still_front s0 s1 s2 (report_text c.args.show r) (replies_part r) (from_calls c.args.show r) after_history c.in_err-put_titled-2.ensures.bytes)

pub returns-in_err-put_calls-clause-bytes : goal.returns-in_err-put_calls-clause-bytes
returns-in_err-put_calls-clause-bytes g c =
    let e = c.args.end.now in
    let r : Reported = record { history = e.history.now; replies = e.replies.now; steps = e.steps.now; calls = e.calls.now; waits = e.waits.now; links = e.links.now; finals = e.finals.now; made = e.made } in
    let s0 = g.K.Sink.held c.args.sink.now in
    let s1 = g.K.Sink.held c.put_titled.new.sink in
    let after_history = history_put s0 s1 c.args.show r c.in_ok-put_titled.ensures.bytes in
    let s2 = g.K.Sink.held c.put_titled-2.new.sink in
    let after_replies = replies_put s0 s1 s2 c.args.show r after_history c.in_ok-put_titled-2.ensures.bytes in
    let s3 = g.K.Sink.held c.put_calls.new.sink in
    let p = err_from_is_err_and c.from_residual-in_err-put_calls.result c.from_residual-in_err-put_calls.ensures.1 in
    rw p.1 (still_front s0 s2 s3 (report_text c.args.show r) (calls_text c.args.show r.calls) (from_waits r) after_replies c.in_err-put_calls.ensures.bytes)

pub returns-in_err-put_all_waits-clause-bytes : goal.returns-in_err-put_all_waits-clause-bytes
returns-in_err-put_all_waits-clause-bytes g c =
    let e = c.args.end.now in
    let r : Reported = record { history = e.history.now; replies = e.replies.now; steps = e.steps.now; calls = e.calls.now; waits = e.waits.now; links = e.links.now; finals = e.finals.now; made = e.made } in
    let s0 = g.K.Sink.held c.args.sink.now in
    let s1 = g.K.Sink.held c.put_titled.new.sink in
    let after_history = history_put s0 s1 c.args.show r c.in_ok-put_titled.ensures.bytes in
    let s2 = g.K.Sink.held c.put_titled-2.new.sink in
    let after_replies = replies_put s0 s1 s2 c.args.show r after_history c.in_ok-put_titled-2.ensures.bytes in
    let s3 = g.K.Sink.held c.put_calls.new.sink in
    let after_calls = calls_put s0 s2 s3 c.args.show r after_replies c.in_ok-put_calls.ensures.bytes in
    let s4 = g.K.Sink.held c.put_all_waits.new.sink in
    let p = err_from_is_err_and c.from_residual-in_err-put_all_waits.result c.from_residual-in_err-put_all_waits.ensures.1 in
    rw p.1 (still_front s0 s3 s4 (report_text c.args.show r) (waits_part r) (from_finals r) after_calls c.in_err-put_all_waits.ensures.bytes)

pub returns-in_err-put_each-clause-bytes : goal.returns-in_err-put_each-clause-bytes
returns-in_err-put_each-clause-bytes g c =
    let e = c.args.end.now in
    let r : Reported = record { history = e.history.now; replies = e.replies.now; steps = e.steps.now; calls = e.calls.now; waits = e.waits.now; links = e.links.now; finals = e.finals.now; made = e.made } in
    let s0 = g.K.Sink.held c.args.sink.now in
    let s1 = g.K.Sink.held c.put_titled.new.sink in
    let after_history = history_put s0 s1 c.args.show r c.in_ok-put_titled.ensures.bytes in
    let s2 = g.K.Sink.held c.put_titled-2.new.sink in
    let after_replies = replies_put s0 s1 s2 c.args.show r after_history c.in_ok-put_titled-2.ensures.bytes in
    let s3 = g.K.Sink.held c.put_calls.new.sink in
    let after_calls = calls_put s0 s2 s3 c.args.show r after_replies c.in_ok-put_calls.ensures.bytes in
    let s4 = g.K.Sink.held c.put_all_waits.new.sink in
    let after_waits = waits_put s0 s3 s4 c.args.show r after_calls c.in_ok-put_all_waits.ensures.bytes in
    let s5 = g.K.Sink.held c.put_each.new.sink in
    let p = err_from_is_err_and c.from_residual-in_err-put_each.result c.from_residual-in_err-put_each.ensures.1 in
    rw p.1 (still_front s0 s4 s5 (report_text c.args.show r) (flat_map final_text r.finals) (from_totals r) after_waits c.in_err-put_each.ensures.bytes)

pub returns-clause-bytes : goal.returns-clause-bytes
returns-clause-bytes g c =
    let e = c.args.end.now in
    let r : Reported = record { history = e.history.now; replies = e.replies.now; steps = e.steps.now; calls = e.calls.now; waits = e.waits.now; links = e.links.now; finals = e.finals.now; made = e.made } in
    let s0 = g.K.Sink.held c.args.sink.now in
    let s1 = g.K.Sink.held c.put_titled.new.sink in
    let after_history = history_put s0 s1 c.args.show r c.in_ok-put_titled.ensures.bytes in
    let s2 = g.K.Sink.held c.put_titled-2.new.sink in
    let after_replies = replies_put s0 s1 s2 c.args.show r after_history c.in_ok-put_titled-2.ensures.bytes in
    let s3 = g.K.Sink.held c.put_calls.new.sink in
    let after_calls = calls_put s0 s2 s3 c.args.show r after_replies c.in_ok-put_calls.ensures.bytes in
    let s4 = g.K.Sink.held c.put_all_waits.new.sink in
    let after_waits = waits_put s0 s3 s4 c.args.show r after_calls c.in_ok-put_all_waits.ensures.bytes in
    let s5 = g.K.Sink.held c.put_each.new.sink in
    let after_finals = finals_put s0 s4 s5 c.args.show r after_waits c.in_ok-put_each.ensures.bytes in
    let s6 = g.K.Sink.held c.put_total.new.sink in
    still_last s0 s5 s6 c.put_total.result (report_text c.args.show r) (from_totals r) after_finals c.put_total.ensures.bytes
