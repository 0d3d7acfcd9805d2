use Rattle.k_partners.proofs.Partners.{partners_meet}
use Rattle.k_partners.proofs.laws.nobody_waits_for_a_thread_that_is_no_more.Goals as goal

pub returns : goal.returns
returns c = λ b t from h free unlooked q. partners_meet b t from h free unlooked q
