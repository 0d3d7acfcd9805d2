use Rattle.k_plays.specs.Scripts.{ranged_programs}
use Rattle.k_invariant.proofs.Rests.{rest_finished}
use Rattle.k_whole.proofs.Rests.{idle_all_rest}
use Rattle.k_whole.proofs.laws.idle_means_finished.Goals as goal

pub returns : goal.returns
returns c = λ script b w es k n h idle sum none.
    let f = rest_finished script b es k h.holds (idle_all_rest (ranged_programs script) b w n h.pair idle sum none) in
    (f, record { legal = h.holds.ledgers.leads.follows.legal; plays = h.holds.ledgers.leads.follows.plays; finished = f })
