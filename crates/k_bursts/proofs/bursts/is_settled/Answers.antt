use Rattle.std.proofs.Common.{◌≡◌, ◌<◌, false, sym, ◌∙◌, subst, rules}
use Rattle.k_bursts.proofs.Loops.{all_false}
use Rattle.k_bursts.proofs.bursts.is_settled.Goals as goal

pub returns-then-not-settled : goal.returns-then-not-settled
returns-then-not-settled g c =
    let script = c.args.script.now in
    let inside : c.loop-c.c < script.carriers = subst (λ n. c.loop-c.c < n) c.carriers-c-end.ensures c.loop-c-test.true in
    let off : c.settled.result ≡ false = search (rules, c.if-not-settled.true) in
    sym (all_false (g.K.Kernel.carriers script) script.carriers c.loop-c.c (g.K.Kernel.world script c.args.kernel.now) inside
    (sym c.settled.ensures ∙ off))
