use Rattle.k_sections.proofs.Premises.{sound_kept}
use Rattle.k_sections.proofs.laws.a_sound_board_is_kept.Goals as goal

pub returns : goal.returns
returns g c = let q = g.Q.Queued in sound_kept q.programs q.HasQueues q.queued
