use Rattle.k_switch.proofs.SwitchLaws.{answered, at_with, hand_kept, with_both}
use Rattle.k_switch.proofs.laws.a_switch_is_its_location.Goals as goal

pub returns-clause-at : goal.returns-clause-at
returns-clause-at c = at_with

pub returns-clause-hand : goal.returns-clause-hand
returns-clause-hand c = hand_kept

pub returns-clause-back : goal.returns-clause-back
returns-clause-back c = with_both

pub returns-clause-onward : goal.returns-clause-onward
returns-clause-onward c = answered
