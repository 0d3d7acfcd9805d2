use Rattle.std.proofs.Common.{rules, ◌≡◌, length, subst}
use Rattle.k_core.proofs.Numbers.{HasFirst, first_all, first_none}
use Rattle.k_core.proofs.boot.numbers_of.Goals as goal

pub loop-number-init : goal.loop-number-init
loop-number-init c = rw c.table.ensures (first_none c.args.script.now c.versions_of.result
    c.versions_of.ensures.versions c.holds.ensures.numbered)

pub returns : goal.returns
returns c =
    let all : c.loop-number.number ≡ length c.args.script.now.threads = search rules in
    first_all c.args.script.now c.loop-number.numbers
    (subst (λ n. HasFirst c.args.script.now n c.loop-number.numbers) all c.loop-number.invariant)
