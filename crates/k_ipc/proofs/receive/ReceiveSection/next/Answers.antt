use Rattle.std.proofs.Common.{◌≡◌, sym, ap, ◌∙◌}
use Rattle.k_locks.specs.declared.steps.Step.{Step}
use Rattle.k_locks.specs.Steps.{suits}
use Rattle.k_ipc.specs.declared.receive.ReceiveLocation.{ReceiveLocation}
use Rattle.k_ipc.specs.ReceiveTable.{asked_location, at_of, hand_of, next_of, step_of}
use Rattle.k_ipc.proofs.ReceiveLaws.{asked_at, asked_sound, asked_suits}
use Rattle.k_ipc.proofs.receive.ReceiveSection.next.Goals as goal

pub returns-clause-sound : goal.returns-clause-sound
returns-clause-sound c =
    let s = c.args.self.now in
    let left : c.asked-step.result.1 ≡ asked_location s.location = c.asked-step.ensures.left ∙ ap asked_location c.replace-location.ensures.value in
    rw left (asked_sound s c.requires.sound)

pub returns-clause-same : goal.returns-clause-same
returns-clause-same c =
    let s = c.args.self.now in
    let left : c.asked-step.result.1 ≡ asked_location s.location = c.asked-step.ensures.left ∙ ap asked_location c.replace-location.ensures.value in
    ap at_of left ∙ asked_at s.location

pub returns-clause-answers : goal.returns-clause-answers
returns-clause-answers c = λ a h.
    let s = c.args.self.now in
    let left : c.asked-step.result.1 ≡ asked_location s.location = c.asked-step.ensures.left ∙ ap asked_location c.replace-location.ensures.value in
    let step : c.asked-step.result.0 ≡ step_of s = c.asked-step.ensures.step ∙ ap (λ (l : ReceiveLocation). next_of s.call s.own (hand_of l) (at_of l)) c.replace-location.ensures.value in
    rw left (asked_suits s a (ap (λ (t : Step). suits t a) (sym step) ∙ h))
