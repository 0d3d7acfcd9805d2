use Rattle.k_invariant.proofs.Rests.{rest_finished}
use Rattle.k_invariant.proofs.laws.where_all_rest_the_history_is_finished.Goals as goal

pub returns : goal.returns
returns c =
    λ script b es k h rest. let f = rest_finished script b es k h rest in
    (f, record { legal = h.ledgers.leads.follows.legal; plays = h.ledgers.leads.follows.plays; finished = f })
