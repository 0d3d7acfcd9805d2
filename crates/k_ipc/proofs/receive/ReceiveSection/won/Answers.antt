use Rattle.std.proofs.Common.{◌≡◌, refl, ap, sym, ◌∙◌}
use Rattle.k_locks.specs.Asks.{Won}
use Rattle.k_locks.specs.Hands.{Hand, nothing}
use Rattle.k_ipc.specs.ReceiveTable.{Locked, hand_after, leads, location_with, ReceiveAt}
use Rattle.k_ipc.proofs.ReceiveLaws.{won_keeps}
use Rattle.k_ipc.proofs.receive.ReceiveSection.won.Goals as goal

pub returns-clause-section : goal.returns-clause-section
returns-clause-section c =
    let h : Hand = record nothing { queue = c.in-Locked.queue } in
    let call = c.args.self.call in
    let kept = won_keeps call h c.in-Locked.at in
    let next = c.after_exchange-next.ensures.next c.in-Locked.queue in
    let stands : c.locked.result ≡ location_with (hand_after call h (Locked c.in-Locked.at) Won) (leads call h (Locked c.in-Locked.at) Won) =
    c.locked.ensures ∙ ap (λ (p : ReceiveAt). location_with h p) next ∙ ap (λ (i : Hand). location_with i (leads call h (Locked c.in-Locked.at) Won)) (sym kept) in
    rw (c.section.ensures, c.in-Locked.is, stands, c.own_after.ensures.word) refl
