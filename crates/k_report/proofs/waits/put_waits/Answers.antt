use Rattle.std.proofs.Common.{◌+◌, ◌++◌, ◌∙◌, get_or, subst, List, ℕ}
use Rattle.std.proofs.lemmas.Result.{err_from_is_err_and}
use Rattle.k_report.specs.Waits.{wait_text, waits_text}
use Rattle.k_report.proofs.Chains.{lines_from, no_wait_mark, one_wait}
use Rattle.k_report.proofs.Putting.{StillToPut, still_front, still_put}
use Rattle.k_report.proofs.waits.put_waits.Goals as goal

pub returns-in_err-put_wait-clause-bytes : goal.returns-in_err-put_wait-clause-bytes
returns-in_err-put_wait-clause-bytes g c =
    let p = err_from_is_err_and c.from_residual.result c.from_residual.ensures.1 in
    let marks = c.args.marks.now in
    let links = c.args.links.now in
    let k = c.loop-index.index in
    let a = g.K.Sink.held c.args.sink.now in
    let b = g.K.Sink.held c.loop-index.sink in
    let d = g.K.Sink.held c.put_wait.new.sink in
    let still : StillToPut a b (waits_text marks links) (wait_text k (get_or marks k no_wait_mark) links ++ lines_from marks links (k + 1)) =
    subst (λ (t : List ℕ). StillToPut a b (waits_text marks links) t) (one_wait marks links k c.loop-index-test.true) c.loop-index.invariant.0 in
    rw p.1 (still_front a b d (waits_text marks links) (wait_text k (get_or marks k no_wait_mark) links) (lines_from marks links (k + 1)) still c.in_err-put_wait.ensures.bytes)

pub loop-index-preserved : goal.loop-index-preserved
loop-index-preserved g c =
    let marks = c.args.marks.now in
    let links = c.args.links.now in
    let k = c.loop-index.index in
    let a = g.K.Sink.held c.args.sink.now in
    let b = g.K.Sink.held c.loop-index.sink in
    let d = g.K.Sink.held c.put_wait.new.sink in
    let still : StillToPut a b (waits_text marks links) (wait_text k (get_or marks k no_wait_mark) links ++ lines_from marks links (k + 1)) =
    subst (λ (t : List ℕ). StillToPut a b (waits_text marks links) t) (one_wait marks links k c.loop-index-test.true) c.loop-index.invariant.0 in (
      still_put a b d (waits_text marks links) (wait_text k (get_or marks k no_wait_mark) links) (lines_from marks links (k + 1)) still c.in_ok-put_wait.ensures.bytes,
      c.in_ok-put_wait.ensures.cause.calm ∙ c.loop-index.invariant.1,
    )
