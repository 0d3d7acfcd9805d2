use Rattle.std.proofs.Common.{ap}
use Rattle.std.specs.Prelude.{not}
use Rattle.k_carrier.specs.Rules.{is_pending}
use Rattle.k_carrier.specs.Seen.{carrier_in}
use Rattle.k_carrier.proofs.Tests.{both}
use Rattle.k_carrier.proofs.carrier.Carrier.is_interrupted.Goals as goal

pub returns-then-not-self : goal.returns-then-not-self
returns-then-not-self c = λ script. both (not c.args.self.now.switching) (is_pending (carrier_in script c.args.self.now)) c.is_pending.result (ap not c.if-not-self.true) (c.is_pending.ensures script)
