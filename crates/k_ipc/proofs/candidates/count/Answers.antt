use Rattle.std.proofs.Common.{◌≡◌, ◌+◌, Bool, ap, ◌∙◌, arith}
use Rattle.std.specs.Prelude.{if◌then◌else◌}
use Rattle.k_ids.specs.declared.threads.ThreadId.{ThreadId}
use Rattle.k_model.specs.State.{admits}
use Rattle.k_ipc.specs.Candidates.{admitted, linked}
use Rattle.k_senders.specs.Entries.{sender_of}
use Rattle.k_ipc.proofs.Scanned.{after_links, count_steps, scan_shortens, scanned_few}
use Rattle.k_ipc.proofs.candidates.count.Goals as goal

pub overflow_add-count : goal.overflow_add-count
overflow_add-count c =
    let es = c.args.queue.now.entries in
    let one : c.one_if-count.result ≡ (if admits c.args.from (sender_of c.entry_at.result) then 1 else 0) =
    c.one_if-count.ensures ∙ ap (λ (b : Bool). if b then 1 else 0) (c.admits.ensures ∙ ap (λ (t : ThreadId). admits c.args.from t) c.sender-sender.ensures.sender) in
    let step = count_steps c.args.from c.loop-at.at c.in-Some.number es c.entry_at.result c.holds.ensures.once c.in-Some.is c.entry_at.ensures in
    let now = c.loop-at.invariant.1 in
    let few = scanned_few c.args.from c.args.start es c.holds.ensures.few in
    omega (arith, one, step, now, few)

pub loop-at-smaller : goal.loop-at-smaller
loop-at-smaller c =
    let shorter = scan_shortens c.loop-at.at c.in-Some.number c.args.queue.now.entries c.entry_at.result c.holds.ensures.once c.in-Some.is c.entry_at.ensures in
    rw c.after-at.ensures shorter

pub loop-at-preserved : goal.loop-at-preserved
loop-at-preserved c =
    let es = c.args.queue.now.entries in
    let one : c.one_if-count.result ≡ (if admits c.args.from (sender_of c.entry_at.result) then 1 else 0) =
    c.one_if-count.ensures ∙ ap (λ (b : Bool). if b then 1 else 0) (c.admits.ensures ∙ ap (λ (t : ThreadId). admits c.args.from t) c.sender-sender.ensures.sender) in
    let step = count_steps c.args.from c.loop-at.at c.in-Some.number es c.entry_at.result c.holds.ensures.once c.in-Some.is c.entry_at.ensures in
    let now = c.loop-at.invariant.1 in
    let after : c.loop-at.count + c.one_if-count.result + admitted c.args.from (linked c.after-at.result es) ≡ admitted c.args.from (linked c.args.start es) = rw c.after-at.ensures (omega (arith, one, step, now)) in
    (rw c.after-at.ensures (after_links c.in-Some.number es), after)

pub returns-clause-few : goal.returns-clause-few
returns-clause-few c =
    let few = scanned_few c.args.from c.args.start c.args.queue.now.entries c.holds.ensures.few in
    let now = c.loop-at.invariant.1 in
    omega (arith, now, few)
