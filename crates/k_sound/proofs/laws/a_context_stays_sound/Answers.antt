use Rattle.k_sound.proofs.Contexts.{answered_sound, asked_sound, begun_sound}
use Rattle.k_sound.proofs.laws.a_context_stays_sound.Goals as goal

pub returns-clause-begun : goal.returns-clause-begun
returns-clause-begun c = begun_sound

pub returns-clause-asked : goal.returns-clause-asked
returns-clause-asked c = asked_sound

pub returns-clause-answered : goal.returns-clause-answered
returns-clause-answered c = answered_sound
