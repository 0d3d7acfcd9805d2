use Rattle.std.proofs.Common.{◌≡◌, ◌-◌, ℕ, arith, sym, ap, ◌∙◌, subst, drop, length}
use Rattle.k_script.specs.Weight.{AreCapped, totals, level_totals}
use Rattle.k_script.proofs.Capped.{totals_few, totals_at, first_capped}
use Rattle.k_script.proofs.scale.Scale.program.Goals as goal

pub loop-at-preserved : goal.loop-at-preserved
loop-at-preserved c = λ exact before.
    let some = totals_few c.args.self exact c.args.operations.now c.loop-at.at c.requires.nested in
    let few = totals_few c.args.self exact c.args.operations.now (c.loop-at.at - 1) c.requires.nested in
    let same = totals_at c.args.self exact c.args.operations.now c.loop-at.at _ c.loop-at-test.true c.loop-at.auto.at in
    subst (AreCapped (level_totals c.in_front-levels.result)) (sym same)
    (c.in_front-levels.ensures exact (totals c.args.self exact (drop c.loop-at.at c.args.operations.now)) before (c.loop-at.invariant exact before) some.0 (omega (arith, ap length same, few.1)))

pub returns : goal.returns
returns c = λ exact before.
    let start : c.loop-at.at ≡ 0 = omega (arith, c.loop-at-test.false) in
    let all : AreCapped (level_totals c.loop-at.levels) (totals c.args.self exact c.args.operations.now) = subst (λ (k : ℕ). AreCapped (level_totals c.loop-at.levels) (totals c.args.self exact (drop k c.args.operations.now))) start (c.loop-at.invariant exact before) in
    c.saturating_add.ensures ∙ first_capped c.args.self.ending c.loop-at.levels.first (totals c.args.self exact c.args.operations.now) (omega arith) (all 0)
