use Rattle.k_room.proofs.Wholes.{first_leads, front_follows, history_from, leads_on, one_state}
use Rattle.k_room.proofs.laws.a_history_follows_on.Goals as goal

pub returns-clause-first : goal.returns-clause-first
returns-clause-first c = first_leads

pub returns-clause-more : goal.returns-clause-more
returns-clause-more c = λ script es k n at e s h x. leads_on script es k at s h n e x

pub returns-clause-fronts : goal.returns-clause-fronts
returns-clause-fronts c = front_follows

pub returns-clause-one : goal.returns-clause-one
returns-clause-one c = one_state

pub returns-clause-ends : goal.returns-clause-ends
returns-clause-ends c = history_from
