use Rattle.std.proofs.Common.{ap}
use Rattle.std.specs.Prelude.{not}
use Rattle.k_carrier.specs.Rules.{is_interrupted, is_own}
use Rattle.k_carrier.specs.Seen.{carrier_in, hand_in}
use Rattle.k_carrier.proofs.Tests.{both, not_first}
use Rattle.k_carrier.proofs.carrier.Carrier.is_stopped.Goals as goal
use Rattle.std.proofs.Common.{sym, ◌∙◌}

pub returns-then-is_interrupted : goal.returns-then-is_interrupted
returns-then-is_interrupted c = λ script. both (is_interrupted (carrier_in script c.args.self.now)) (not (is_own (carrier_in script c.args.self.now) (hand_in script c.args.hand.now))) (not c.is_own.result) (sym (c.is_interrupted.ensures script) ∙ c.if-is_interrupted.true) (ap not c.is_own.ensures)

pub returns-else-is_interrupted : goal.returns-else-is_interrupted
returns-else-is_interrupted c = λ script. not_first (is_interrupted (carrier_in script c.args.self.now)) (not (is_own (carrier_in script c.args.self.now) (hand_in script c.args.hand.now))) c.is_interrupted.result (c.is_interrupted.ensures script) c.if-is_interrupted.false
