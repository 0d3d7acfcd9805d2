use Rattle.k_carrier.proofs.carrier.Carrier.take_goal.Goals as goal

pub returns-clause-placed : goal.returns-clause-placed
returns-clause-placed c = λ script placed. c.take_in_hand.ensures.placed script (c.wake.ensures.placed script placed)
