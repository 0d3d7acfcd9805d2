use Rattle.k_room.proofs.Wholes.{state_answered, state_ranged, state_size, state_sound}
use Rattle.k_room.proofs.laws.a_followed_history_is_good.Goals as goal

pub returns-clause-size : goal.returns-clause-size
returns-clause-size c = state_size

pub returns-clause-sound : goal.returns-clause-sound
returns-clause-sound c = state_sound

pub returns-clause-answered : goal.returns-clause-answered
returns-clause-answered c = state_answered

pub returns-clause-ranged : goal.returns-clause-ranged
returns-clause-ranged c = state_ranged
