use Rattle.std.proofs.Common.{sym, ◌∙◌, true, None}
use Rattle.k_carrier.specs.Rules.{begins}
use Rattle.k_carrier.specs.Seen.{carrier_in}
use Rattle.k_carrier.proofs.Tests.{chosen, other}
use Rattle.k_carrier.proofs.carrier.Carrier.ready.Goals as goal

pub returns-then-begins : goal.returns-then-begins
returns-then-begins c = λ script. chosen (begins (carrier_in script c.args.self.now)) (record (carrier_in script c.args.self.now) { switching = true; help = None; looked = None }) (carrier_in script c.args.self.now) (sym (c.begins.ensures script) ∙ c.if-begins.true)

pub returns-else-begins : goal.returns-else-begins
returns-else-begins c = λ script. other (begins (carrier_in script c.args.self.now)) (record (carrier_in script c.args.self.now) { switching = true; help = None; looked = None }) (carrier_in script c.args.self.now) (sym (c.begins.ensures script) ∙ c.if-begins.false)
