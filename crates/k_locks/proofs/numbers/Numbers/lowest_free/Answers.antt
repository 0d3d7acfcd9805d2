use Rattle.std.proofs.Common.{sym, ◌∙◌, arith, length}
use Rattle.k_model.proofs.Maps.{lowest-is, lowest-is_None}
use Rattle.k_locks.specs.Numbers.{is_free}
use Rattle.k_locks.proofs.numbers.Numbers.lowest_free.Goals as goal

pub returns-then-is_free-clause-number : goal.returns-then-is_free-clause-number
returns-then-is_free-clause-number c =
    let s = c.args.self.now in
    sym (lowest-is (is_free s) (length s.versions) c.loop-number.number (omega (arith, c.loop-number-test.true, c.count-number-end.ensures.versions)) (sym c.is_free.ensures ∙ c.if-is_free.true) c.loop-number.invariant)

pub returns-clause-number : goal.returns-clause-number
returns-clause-number c =
    let s = c.args.self.now in
    sym (lowest-is_None (is_free s) (length s.versions) (λ j l. c.loop-number.invariant j (omega (arith, l, c.loop-number-test.false, c.count-number-end.ensures.versions))))
