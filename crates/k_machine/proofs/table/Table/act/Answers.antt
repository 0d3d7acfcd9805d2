use Rattle.std.proofs.Common.{◌≡◌, ◌<◌, length, sym, subst, true}
use Rattle.k_ids.specs.declared.calls.Act.{Act}
use Rattle.k_model.specs.Step.{may_act}
use Rattle.k_model.proofs.Answered.{unanswered_next, unanswered_zero}
use Rattle.std.specs.List.{AllByRecursion}
use Rattle.k_model.specs.State.{KernelState, Place}
use Rattle.k_model.proofs.Maps.{upd_cases}
use Rattle.k_machine.specs.Machine.{state_of}
use Rattle.k_machine.proofs.table.Table.act.Goals as goal

pub make-requires-clause-senders : goal.make-requires-clause-senders
make-requires-clause-senders c =
    let k = state_of c.args.self.now.lists in
    let n = c.args.who.number in
    subst (λ (m : KernelState). AllByRecursion (λ w. w.0.number < m.size) (m.place n).waiting) (sym c.call.ensures.state)
    (upd_cases (λ (p : Place). AllByRecursion (λ w. w.0.number < k.size) p.waiting) k.place n _ n (λ _. c.requires.senders) (λ _. c.requires.senders))

pub make-requires-clause-lists : goal.make-requires-clause-lists
make-requires-clause-lists c = λ t.
    let k = state_of c.args.self.now.lists in
    let n = c.args.who.number in
    subst (λ (m : KernelState). length (m.place t).waiting < 64) (sym c.call.ensures.state)
    (upd_cases (λ (p : Place). length p.waiting < 64) k.place n _ t (λ _. c.requires.lists n) (λ _. c.requires.lists t))

pub receive-requires-clause-senders : goal.receive-requires-clause-senders
receive-requires-clause-senders c =
    let k = state_of c.args.self.now.lists in
    let n = c.args.who.number in
    subst (λ (m : KernelState). AllByRecursion (λ w. w.0.number < m.size) (m.place n).waiting) (sym c.set_status-in-Pick.ensures.state)
    (upd_cases (λ (p : Place). AllByRecursion (λ w. w.0.number < k.size) p.waiting) k.place n _ n (λ _. c.requires.senders) (λ _. c.requires.senders))

pub call-requires-clause-unanswered : goal.call-requires-clause-unanswered
call-requires-clause-unanswered c =
    unanswered_next (state_of c.args.self.now.lists) c.args.who c.args.serial c.in-Call.phase c.requires.answered (subst (λ (a : Act). may_act (state_of c.args.self.now.lists) c.args.who c.args.serial a ≡ true) c.in-Call.is c.requires.may)

pub make-requires-clause-unanswered : goal.make-requires-clause-unanswered
make-requires-clause-unanswered c = λ id. rw c.call.ensures.state (unanswered_zero (state_of c.args.self.now.lists) id c.requires.answered)
