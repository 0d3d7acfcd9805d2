use Rattle.std.proofs.Common.{◌≡◌, ℕ, ◌∙◌, subst, Some}
use Rattle.k_model.specs.Answered.{reply_to}
use Rattle.k_model.specs.State.{id_of}
use Rattle.k_kernel.proofs.Replies.{between_shown, serial_shown}
use Rattle.k_kernel.proofs.laws.a_thread_is_given_the_specifications_reply.Goals as goal

pub returns : goal.returns
returns c = λ script w h i t r e made doing.
    let given = c.a_reply_is_the_specifications.ensures script h.board w.history h.state i r h.holds
    (between_shown script w h i t r e made doing) in
    let serial = serial_shown script w h i t e in
    (given.0 ∙ serial, subst (λ (s : ℕ). reply_to h.state.replies (id_of h.state i) s ≡ Some r) serial given.1)
