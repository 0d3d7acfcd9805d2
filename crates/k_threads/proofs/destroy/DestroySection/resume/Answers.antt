use Rattle.std.proofs.Common.{◌≡◌, sym, ap, ◌∙◌}
use Rattle.k_locks.specs.Steps.{goes_on}
use Rattle.k_threads.specs.declared.destroy.DestroyLocation.{DestroyLocation}
use Rattle.k_threads.specs.DestroyTable.{at_of, can_ask, hand_of, is_open, resumed_location, resumed_went}
use Rattle.k_threads.proofs.DestroyLaws.{resumed_answered, resumed_kept, resumed_open, resumed_suits, went_kept, went_suits}
use Rattle.k_threads.proofs.destroy.DestroySection.resume.Goals as goal

pub returns-clause-section : goal.returns-clause-section
returns-clause-section c = λ e.
    let s = c.args.self.now in
    let to : c.resumed-went.result.1 ≡ resumed_location s.call s.own s.location c.args.answer = c.resumed-went.ensures.location s.own ∙ ap (λ (l : DestroyLocation). resumed_location s.call s.own l c.args.answer) c.replace-location.ensures.value in
    rw (to, c.done_after-self.ensures) (resumed_suits s c.args.answer e)

pub returns-clause-kept : goal.returns-clause-kept
returns-clause-kept c = λ e.
    let s = c.args.self.now in
    let to : c.resumed-went.result.1 ≡ resumed_location s.call s.own s.location c.args.answer = c.resumed-went.ensures.location s.own ∙ ap (λ (l : DestroyLocation). resumed_location s.call s.own l c.args.answer) c.replace-location.ensures.value in
    rw (to, c.done_after-self.ensures) (resumed_kept s c.args.answer e)

pub returns-clause-went : goal.returns-clause-went
returns-clause-went c = λ e.
    let s = c.args.self.now in
    c.resumed-went.ensures.went s.own ∙ ap (λ (l : DestroyLocation). resumed_went s.call s.own (hand_of l) (at_of l) c.args.answer) c.replace-location.ensures.value ∙ went_suits s c.args.answer e

pub returns-clause-told : goal.returns-clause-told
returns-clause-told c = λ e.
    let s = c.args.self.now in
    c.resumed-went.ensures.went s.own ∙ ap (λ (l : DestroyLocation). resumed_went s.call s.own (hand_of l) (at_of l) c.args.answer) c.replace-location.ensures.value ∙ went_kept s c.args.answer e

pub returns-clause-onward : goal.returns-clause-onward
returns-clause-onward c = λ e o.
    let s = c.args.self.now in
    let to : c.resumed-went.result.1 ≡ resumed_location s.call s.own s.location c.args.answer = c.resumed-went.ensures.location s.own ∙ ap (λ (l : DestroyLocation). resumed_location s.call s.own l c.args.answer) c.replace-location.ensures.value in
    let told : c.resumed-went.result.0 ≡ resumed_went s.call s.own (hand_of s.location) (at_of s.location) c.args.answer = c.resumed-went.ensures.went s.own ∙ ap (λ (l : DestroyLocation). resumed_went s.call s.own (hand_of l) (at_of l) c.args.answer) c.replace-location.ensures.value in
    ap can_ask to ∙ resumed_answered s.call s.own s.location c.args.answer e ∙ resumed_open s.call s.own s.location c.args.answer o ∙ ap goes_on (sym told)

pub returns-clause-answered : goal.returns-clause-answered
returns-clause-answered c = λ e.
    let s = c.args.self.now in
    let to : c.resumed-went.result.1 ≡ resumed_location s.call s.own s.location c.args.answer = c.resumed-went.ensures.location s.own ∙ ap (λ (l : DestroyLocation). resumed_location s.call s.own l c.args.answer) c.replace-location.ensures.value in
    rw to (resumed_answered s.call s.own s.location c.args.answer e)

pub returns-clause-open : goal.returns-clause-open
returns-clause-open c = λ o.
    let s = c.args.self.now in
    let to : c.resumed-went.result.1 ≡ resumed_location s.call s.own s.location c.args.answer = c.resumed-went.ensures.location s.own ∙ ap (λ (l : DestroyLocation). resumed_location s.call s.own l c.args.answer) c.replace-location.ensures.value in
    let told : c.resumed-went.result.0 ≡ resumed_went s.call s.own (hand_of s.location) (at_of s.location) c.args.answer = c.resumed-went.ensures.went s.own ∙ ap (λ (l : DestroyLocation). resumed_went s.call s.own (hand_of l) (at_of l) c.args.answer) c.replace-location.ensures.value in
    ap (λ (l : DestroyLocation). is_open (at_of l)) to ∙ resumed_open s.call s.own s.location c.args.answer o ∙ ap goes_on (sym told)
