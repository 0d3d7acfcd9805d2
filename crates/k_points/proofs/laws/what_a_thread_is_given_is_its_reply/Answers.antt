use Rattle.k_points.proofs.Starts.{given_is}
use Rattle.k_points.proofs.laws.what_a_thread_is_given_is_its_reply.Goals as goal

pub returns : goal.returns
returns c = λ g b k i r ok sh at. given_is g b k i r ok sh at
