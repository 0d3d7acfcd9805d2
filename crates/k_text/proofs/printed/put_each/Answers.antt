use Rattle.std.proofs.Common.{ℕ, List, take, drop, ◌+◌, ◌++◌, ◌≡◌, ◌∙◌, sym, ap, subst}
use Rattle.std.specs.List.{flat_map}
use Rattle.std.proofs.lemmas.Result.{err_from_is_err_and}
use Rattle.k_outside.specs.Outside.{Appends, AppendsFront}
use Rattle.k_outside.proofs.Texts.{appends_more, front_more, front_first}
use Rattle.k_text.proofs.Joined.{text_more, text_rest}
use Rattle.k_text.proofs.printed.put_each.Goals as goal

pub returns-in_err-put_line-clause-bytes : goal.returns-in_err-put_line-clause-bytes
returns-in_err-put_line-clause-bytes g c =
    let f = g.T.Printed.text in
    let xs = c.args.items.now in
    let i = c.loop-item.item-index in
    let x = c.item-item.result in
    let a = g.K.Sink.held c.args.sink.now in
    let b = g.K.Sink.held c.loop-item.sink in
    let d = g.K.Sink.held c.put_line.new.sink in
    let p = err_from_is_err_and c.from_residual.result c.from_residual.ensures.1 in
    let whole : (flat_map f (take i xs) ++ f x) ++ flat_map f (drop (i + 1) xs) ≡ flat_map f xs = ap (λ (t : List ℕ). t ++ flat_map f (drop (i + 1) xs)) (sym (text_more f xs i x c.loop-item-test.true c.item-item.is)) ∙ text_rest f xs (i + 1) in
    rw p.1 (subst (λ (t : List ℕ). AppendsFront a d t) whole (front_first a d (flat_map f (take i xs) ++ f x) (flat_map f (drop (i + 1) xs)) (front_more a b d (flat_map f (take i xs)) (f x) c.loop-item.invariant.0 c.in_err-put_line.ensures.bytes)))

pub loop-item-preserved : goal.loop-item-preserved
loop-item-preserved g c =
    let f = g.T.Printed.text in
    let xs = c.args.items.now in
    let i = c.loop-item.item-index in
    let x = c.item-item.result in
    let a = g.K.Sink.held c.args.sink.now in
    let b = g.K.Sink.held c.loop-item.sink in
    let d = g.K.Sink.held c.put_line.new.sink in (
      subst (λ (t : List ℕ). Appends a d t) (sym (text_more f xs i x c.loop-item-test.true c.item-item.is)) (appends_more a b d (flat_map f (take i xs)) (f x) c.loop-item.invariant.0 c.in_ok-put_line.ensures.bytes),
      c.in_ok-put_line.ensures.cause.calm ∙ c.loop-item.invariant.1,
    )
