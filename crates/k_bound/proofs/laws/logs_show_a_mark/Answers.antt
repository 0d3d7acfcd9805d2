use Rattle.k_bound.proofs.Logs.{begun_shown, counted_shown, left_out_shown, linked_shown, passed_shown}
use Rattle.k_bound.proofs.laws.logs_show_a_mark.Goals as goal

pub returns-clause-begun : goal.returns-clause-begun
returns-clause-begun g c = λ mark_of link_of. begun_shown mark_of link_of

pub returns-clause-linked : goal.returns-clause-linked
returns-clause-linked g c = λ mark_of link_of. linked_shown mark_of link_of

pub returns-clause-counted : goal.returns-clause-counted
returns-clause-counted g c = λ mark_of link_of. counted_shown mark_of link_of

pub returns-clause-left_out : goal.returns-clause-left_out
returns-clause-left_out g c = λ mark_of link_of. left_out_shown mark_of link_of

pub returns-clause-passed_over : goal.returns-clause-passed_over
returns-clause-passed_over g c = λ mark_of link_of. passed_shown mark_of link_of
