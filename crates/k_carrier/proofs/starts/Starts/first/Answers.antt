use Rattle.std.proofs.Common.{sym, ◌∙◌, arith}
use Rattle.k_model.proofs.Maps.{lowest-is, lowest-is_None}
use Rattle.k_carrier.specs.Starts.{is_due}
use Rattle.k_carrier.proofs.starts.Starts.first.Goals as goal

pub returns-then-is_due-clause-number : goal.returns-then-is_due-clause-number
returns-then-is_due-clause-number c =
    sym (lowest-is (is_due c.args.self.now) 64 c.loop-number.number (omega arith) (sym c.is_due.ensures ∙ c.if-is_due.true) c.loop-number.invariant)

pub returns-clause-number : goal.returns-clause-number
returns-clause-number c = sym (lowest-is_None (is_due c.args.self.now) 64 (λ j l. c.loop-number.invariant j (omega (arith, l))))
