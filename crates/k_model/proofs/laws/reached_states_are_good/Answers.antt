use Rattle.k_model.specs.History.{opened}
use Rattle.k_model.proofs.Opening.{opened-sound}
use Rattle.k_model.proofs.Answered.{opened-answered}
use Rattle.k_model.proofs.Listed.{opened-listed}
use Rattle.k_model.proofs.Replays.{replay_good, replay_listed}
use Rattle.k_model.proofs.laws.reached_states_are_good.Goals as goal

pub returns-clause-sound : goal.returns-clause-sound
returns-clause-sound c = λ versions threads entries k h. (replay_good (opened versions threads) entries k (opened-sound versions threads) (opened-answered versions threads) h).0

pub returns-clause-answered : goal.returns-clause-answered
returns-clause-answered c = λ versions threads entries k h. (replay_good (opened versions threads) entries k (opened-sound versions threads) (opened-answered versions threads) h).1

pub returns-clause-listed : goal.returns-clause-listed
returns-clause-listed c = λ versions threads entries k h. replay_listed (opened versions threads) entries k (opened-sound versions threads) (opened-listed versions threads) h
