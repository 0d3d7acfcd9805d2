use Rattle.std.proofs.Common.{ap}
use Rattle.std.specs.Prelude.{not, ◌&&◌, is_none}
use Rattle.k_carrier.specs.Rules.{is_interrupted}
use Rattle.k_carrier.specs.Seen.{carrier_in}
use Rattle.k_carrier.proofs.Tests.{both, first, second, told_none}
use Rattle.k_carrier.proofs.carrier.Carrier.begins.Goals as goal

pub returns-then-is_interrupted : goal.returns-then-is_interrupted
returns-then-is_interrupted c = λ script. first (is_interrupted (carrier_in script c.args.self.now)) (not c.args.self.now.switching && is_none c.args.self.now.goal) c.is_interrupted.result (c.is_interrupted.ensures script) c.if-is_interrupted.true

pub returns-then-not-self : goal.returns-then-not-self
returns-then-not-self c = λ script. second (is_interrupted (carrier_in script c.args.self.now)) (not c.args.self.now.switching && is_none c.args.self.now.goal) c.is_none.result c.is_interrupted.result (c.is_interrupted.ensures script) c.if-is_interrupted.false (both (not c.args.self.now.switching) (is_none c.args.self.now.goal) c.is_none.result (ap not c.if-not-self.true) (told_none c.args.self.now.goal c.is_none.result c.is_none.ensures))
