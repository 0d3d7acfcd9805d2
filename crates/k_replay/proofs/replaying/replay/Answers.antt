use Rattle.std.proofs.Common.{◌≡◌, ◌∙◌, ap, subst}
use Rattle.k_machine.specs.Machine.{state_of}
use Rattle.k_model.specs.State.{KernelState}
use Rattle.k_room.proofs.Fronts.{replay_one}
use Rattle.k_script.specs.Plays.{opened_for}
use Rattle.k_replay.specs.Reports.{IsReplies, finals_of}
use Rattle.k_replay.proofs.replaying.replay.Goals as goal

pub returns-clause-replies : goal.returns-clause-replies
returns-clause-replies c = λ end legal.
    let same : state_of c.in_ok-machine.machine.lists ≡ end =
    replay_one (opened_for c.args.script.now) c.args.entries.now (state_of c.in_ok-machine.machine.lists) end
    c.in_ok-machine.ensures legal in
    subst (λ (k : KernelState). IsReplies k c.in_ok-sorted_replies.field-0.items) same c.in_ok-sorted_replies.ensures

pub returns-clause-finals : goal.returns-clause-finals
returns-clause-finals c = λ end legal.
    let same : state_of c.in_ok-machine.machine.lists ≡ end =
    replay_one (opened_for c.args.script.now) c.args.entries.now (state_of c.in_ok-machine.machine.lists) end
    c.in_ok-machine.ensures legal in
    c.in_ok-finals.ensures ∙ ap finals_of same
