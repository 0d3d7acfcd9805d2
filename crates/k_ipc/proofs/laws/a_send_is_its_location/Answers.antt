use Rattle.k_ipc.proofs.SendLaws.{asked_at, asked_hand, at_with, hand_with_trimmed, location_back}
use Rattle.k_ipc.proofs.laws.a_send_is_its_location.Goals as goal

pub returns-clause-at : goal.returns-clause-at
returns-clause-at c = at_with

pub returns-clause-hand : goal.returns-clause-hand
returns-clause-hand c = hand_with_trimmed

pub returns-clause-back : goal.returns-clause-back
returns-clause-back c = location_back

pub returns-clause-asked : goal.returns-clause-asked
returns-clause-asked c = asked_at

pub returns-clause-left : goal.returns-clause-left
returns-clause-left c = asked_hand
