use Rattle.k_plays.specs.Scripts.{ranged_programs}
use Rattle.k_whole.proofs.Conditions.{place_empty}
use Rattle.k_whole.proofs.laws.a_place_is_empty.Goals as goal

pub returns : goal.returns
returns c = λ script b w es k i call id h at. place_empty (ranged_programs script) b h.pair.good i call id at
