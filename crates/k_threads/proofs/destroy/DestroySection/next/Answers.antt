use Rattle.std.proofs.Common.{◌≡◌, sym, ap, ◌∙◌}
use Rattle.k_locks.specs.declared.steps.Step.{Step}
use Rattle.k_locks.specs.Steps.{suits}
use Rattle.k_threads.specs.declared.destroy.DestroyLocation.{DestroyLocation}
use Rattle.k_threads.specs.DestroyTable.{asked_location, at_of, hand_of, next_of}
use Rattle.k_threads.proofs.DestroyLaws.{asked_at, asked_hand, asked_suits, empty_back}
use Rattle.k_threads.proofs.destroy.DestroySection.next.Goals as goal

pub returns-clause-step : goal.returns-clause-step
returns-clause-step c =
    let s = c.args.self.now in
    c.asked-step.ensures.step s.own ∙ ap (λ (l : DestroyLocation). next_of s.call s.own (hand_of l) (at_of l)) c.replace-location.ensures.value

pub returns-clause-same : goal.returns-clause-same
returns-clause-same c =
    let s = c.args.self.now in
    let left : c.asked-step.result.1 ≡ asked_location s.location = c.asked-step.ensures.left ∙ ap asked_location c.replace-location.ensures.value in
    ap at_of left ∙ asked_at s.location

pub returns-clause-hand : goal.returns-clause-hand
returns-clause-hand c =
    let s = c.args.self.now in
    let left : c.asked-step.result.1 ≡ asked_location s.location = c.asked-step.ensures.left ∙ ap asked_location c.replace-location.ensures.value in
    ap hand_of left ∙ asked_hand s.call s.own s.location

pub returns-clause-answers : goal.returns-clause-answers
returns-clause-answers c = λ a h.
    let s = c.args.self.now in
    let left : c.asked-step.result.1 ≡ asked_location s.location = c.asked-step.ensures.left ∙ ap asked_location c.replace-location.ensures.value in
    let step = c.asked-step.ensures.step s.own ∙ ap (λ (l : DestroyLocation). next_of s.call s.own (hand_of l) (at_of l)) c.replace-location.ensures.value in
    rw left (asked_suits s.call s.own s.location a (ap (λ (t : Step). suits t a) (sym step) ∙ h))

pub returns-clause-empty : goal.returns-clause-empty
returns-clause-empty c = λ at.
    let s = c.args.self.now in
    let step = c.asked-step.ensures.step s.own ∙ ap (λ (l : DestroyLocation). next_of s.call s.own (hand_of l) (at_of l)) c.replace-location.ensures.value in
    step ∙ empty_back s.call s.own s.location c.requires.open c.requires.sound.located at
