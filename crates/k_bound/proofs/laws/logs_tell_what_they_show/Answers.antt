use Rattle.k_bound.proofs.Logs.{first_shown, shown_bounded}
use Rattle.k_bound.proofs.laws.logs_tell_what_they_show.Goals as goal

pub returns-clause-links : goal.returns-clause-links
returns-clause-links g c = λ mark_of link_of. first_shown mark_of link_of

pub returns-clause-bounded : goal.returns-clause-bounded
returns-clause-bounded g c = λ mark_of link_of. shown_bounded mark_of link_of
