use Rattle.k_room.proofs.Wholes.{whole_few}
use Rattle.k_running.proofs.laws.what_the_kernel_has_logged.Goals as goal

pub returns-clause-history : goal.returns-clause-history
returns-clause-history c =
    λ script w limits h. let f = h.whole.holds.ledgers.leads.follows in
    (h.state, f, whole_few script w.history h.state limits f)

pub returns-clause-steps : goal.returns-clause-steps
returns-clause-steps c = λ script w h. (
  c.the_steps_of_each_call_are_in_order.ensures.order script w h.marks,
  c.the_steps_of_each_call_are_in_order.ensures.once script w h.marks,
)

pub returns-clause-waits : goal.returns-clause-waits
returns-clause-waits c = λ script w h. h.waits.0
