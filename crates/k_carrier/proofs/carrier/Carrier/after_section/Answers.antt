use Rattle.std.proofs.Common.{sym, subst, Option}
use Rattle.k_carrier.specs.declared.moves.Hand.{Hand}
use Rattle.k_carrier.specs.Conditions.{CanTellStep}
use Rattle.k_carrier.specs.Seen.{carrier_in, hands_in}
use Rattle.k_carrier.proofs.Sound.{step_awaited}
use Rattle.k_carrier.proofs.carrier.Carrier.after_section.Goals as goal

pub after_step-requires-clause-suiting : goal.after_step-requires-clause-suiting
after_step-requires-clause-suiting c =
    let s = c.args.script.now in
    let k = carrier_in s c.args.self.now in
    (subst (λ (h : Option Hand). CanTellStep s k (hands_in s h) c.args.answer) (sym c.in-Some.ensures.value) (step_awaited s k c.args.self.now.awaits c.args.answer c.requires.answer)).0
