use Rattle.std.proofs.Common.{◌≡◌, ◌++◌, List, ℕ, codes, arith, subst, ◌∙◌}
use Rattle.std.proofs.lemmas.Result.{err_from_is_err_and}
use Rattle.k_outside.specs.Outside.{PutsAll}
use Rattle.k_report.specs.Waits.{wait_text}
use Rattle.k_report.proofs.Chains.{chain_text, chained_first, chained_more, last_piece}
use Rattle.k_report.proofs.Putting.{still_front, still_last}
use Rattle.k_report.proofs.waits.put_wait.Goals as goal

pub loop-left-init : goal.loop-left-init
loop-left-init g c = chained_first (g.K.Sink.held c.args.sink.now) (g.K.Sink.faults c.args.sink.now) c.args.index c.args.mark.now c.args.links.now c.wait_line-line.result c.wait_line-line.ensures.text c.wait_line-line.ensures.short

pub returns-in_err-put_link-in-Some-clause-bytes : goal.returns-in_err-put_link-in-Some-clause-bytes
returns-in_err-put_link-in-Some-clause-bytes g c =
    let p = err_from_is_err_and c.from_residual.result c.from_residual.ensures.1 in
    let text = wait_text c.args.index c.args.mark.now c.args.links.now in
    rw p.1 (still_front (g.K.Sink.held c.args.sink.now) (g.K.Sink.held c.loop-left.sink) (g.K.Sink.held c.put_link.new.sink) text c.loop-left.line (chain_text c.args.links.now c.args.index c.loop-left.from c.loop-left.left) c.loop-left.invariant.bytes c.in_err-put_link-in-Some.ensures.bytes)

pub loop-left-preserved : goal.loop-left-preserved
loop-left-preserved g c =
    chained_more (g.K.Sink.held c.args.sink.now) (g.K.Sink.held c.loop-left.sink) (g.K.Sink.held c.put_link.new.sink) (g.K.Sink.faults c.args.sink.now) (g.K.Sink.faults c.loop-left.sink) (g.K.Sink.faults c.put_link.new.sink)
    (wait_text c.args.index c.args.mark.now c.args.links.now) c.loop-left.line c.put_link.new.line c.args.links.now c.args.index c.loop-left.from c.loop-left.left c.args.mark.now.count c.in-Some.at
    c.loop-left.invariant c.loop-left-test.true c.in-Some.ensures c.in_ok-put_link-in-Some.ensures.bytes c.in_ok-put_link-in-Some.ensures.short c.in_ok-put_link-in-Some.ensures.cause.calm

pub returns-clause-bytes : goal.returns-clause-bytes
returns-clause-bytes g c =
    let text = wait_text c.args.index c.args.mark.now c.args.links.now in
    let a = g.K.Sink.held c.args.sink.now in
    let b = g.K.Sink.held c.loop-left.sink in
    let d = g.K.Sink.held c.put_all.new.sink in
    let put : c.as_bytes.result.now ≡ c.loop-left.line ++ codes "\n" = c.as_bytes.ensures.text ∙ c.end.ensures.text in
    still_last a b d c.put_all.result text (c.loop-left.line ++ codes "\n") (last_piece a b text c.loop-left.line c.args.links.now c.args.index c.loop-left.from c.loop-left.left (omega arith) c.loop-left.invariant.bytes)
    (subst (λ (t : List ℕ). PutsAll b d c.put_all.result t) put c.put_all.ensures.bytes)
