use Rattle.std.proofs.Common.{sym, ◌∙◌}
use Rattle.k_input.proofs.ByLines.{divides_at, passed_at, ends_at, whole_at, within_at}
use Rattle.k_input.proofs.parts.divide.Goals as goal

pub returns-then-is_divider-clause-script : goal.returns-then-is_divider-clause-script
returns-then-is_divider-clause-script c = (divides_at _ c.loop-end.at c.in-Some.end _ c.in-Some.ensures c.if-is_divider.true c.is_divider.ensures c.loop-end.invariant.1 c.loop-end.invariant.2).0

pub returns-then-is_divider-clause-history : goal.returns-then-is_divider-clause-history
returns-then-is_divider-clause-history c = (divides_at _ c.loop-end.at c.in-Some.end _ c.in-Some.ensures c.if-is_divider.true c.is_divider.ensures c.loop-end.invariant.1 c.loop-end.invariant.2).1

pub loop-end-preserved : goal.loop-end-preserved
loop-end-preserved c =
    let both = passed_at _ c.loop-end.at c.in-Some.end _ c.in-Some.ensures c.if-is_divider.false c.is_divider.ensures c.loop-end.invariant.1 c.loop-end.invariant.2 in
    (within_at _ c.loop-end.at c.in-Some.end c.in-Some.ensures c.loop-end.invariant.0, both.0, both.1)

pub returns-then-is_divider-2-clause-script : goal.returns-then-is_divider-2-clause-script
returns-then-is_divider-2-clause-script c = (ends_at _ c.loop-end.at (sym c.in_default.is ∙ c.line_feed_at.ensures) _ c.if-is_divider-2.true c.is_divider-2.ensures c.loop-end.invariant.1 c.loop-end.invariant.2).0

pub returns-then-is_divider-2-clause-history : goal.returns-then-is_divider-2-clause-history
returns-then-is_divider-2-clause-history c = (ends_at _ c.loop-end.at (sym c.in_default.is ∙ c.line_feed_at.ensures) _ c.if-is_divider-2.true c.is_divider-2.ensures c.loop-end.invariant.1 c.loop-end.invariant.2).1

pub returns-clause-script : goal.returns-clause-script
returns-clause-script c = (whole_at _ c.loop-end.at (sym c.in_default.is ∙ c.line_feed_at.ensures) _ c.if-is_divider-2.false c.is_divider-2.ensures c.loop-end.invariant.1 c.loop-end.invariant.2).0

pub returns-clause-history : goal.returns-clause-history
returns-clause-history c = (whole_at _ c.loop-end.at (sym c.in_default.is ∙ c.line_feed_at.ensures) _ c.if-is_divider-2.false c.is_divider-2.ensures c.loop-end.invariant.1 c.loop-end.invariant.2).1
