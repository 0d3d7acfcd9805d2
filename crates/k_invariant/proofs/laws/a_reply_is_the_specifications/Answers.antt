use Rattle.k_points.proofs.Starts.{given_is}
use Rattle.k_plays.specs.Scripts.{ranged_programs}
use Rattle.k_invariant.proofs.laws.a_reply_is_the_specifications.Goals as goal

pub returns : goal.returns
returns c = λ script b es k i r h at. given_is (ranged_programs script) b k i r h.proper.good.places h.followed.shown.shows at
