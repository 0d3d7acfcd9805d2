use Rattle.std.proofs.Common.{◌≡◌, Bool, false, ap, sym, ◌∙◌}
use Rattle.std.specs.Prelude.{if◌then◌else◌}
use Rattle.k_locks.specs.Steps.{goes_on, is_again}
use Rattle.k_locks.specs.Asks as asks
use Rattle.k_locks.proofs.Responses.{again_heard}
use Rattle.k_ipc.specs.declared.receive.ReceiveLocation.{ReceiveLocation}
use Rattle.k_ipc.specs.declared.receive.ReceiveSection.{ReceiveSection}
use Rattle.k_ipc.specs.ReceiveTable.{ask_of, at_of, can_ask, heard, moved, went_at}
use Rattle.k_ipc.proofs.ReceiveLaws.{resumed_onward, went_is}
use Rattle.k_ipc.proofs.receive.ReceiveSection.resume.Goals as goal

pub returns-clause-went : goal.returns-clause-went
returns-clause-went c =
    let s = c.args.self.now in
    let old = ap (λ (l : ReceiveLocation). moved (record s { location = l }) c.args.answer) c.replace.ensures.value in
    let made : asks.is_again (heard s c.args.answer) ≡ false = sym (again_heard (ask_of s.call s.own (at_of s.location)) c.args.answer) ∙ sym c.is_again.ensures ∙ c.if-is_again.false in
    c.went-went.ensures
    ∙ ap (λ (t : ReceiveSection). went_at c.pushed-pushed.result (at_of t.location)) (c.moved-section.ensures.section ∙ old)
    ∙ went_is s c.args.answer c.pushed-pushed.result made c.pushed-pushed.ensures

pub returns-clause-onward : goal.returns-clause-onward
returns-clause-onward c =
    let s = c.args.self.now in
    let a = c.args.answer in
    let old = ap (λ (l : ReceiveLocation). moved (record s { location = l }) a) c.replace.ensures.value in
    let made : is_again a ≡ false = sym c.is_again.ensures ∙ c.if-is_again.false in
    ap (λ (t : ReceiveSection). can_ask t.location) (c.moved-section.ensures.section ∙ old)
    ∙ sym (ap (λ (b : Bool). can_ask (if b then s else moved s a).location) made)
    ∙ resumed_onward s a c.requires.open c.requires.suits
    ∙ ap goes_on (sym (returns-clause-went c))
