use Rattle.std.proofs.Common.{◌≡◌, ℕ, Some, true, false, ap, sym, subst, ◌∙◌}
use Rattle.k_model.specs.State.{admits}
use Rattle.k_senders.specs.Queue.{entry_of}
use Rattle.k_ipc.proofs.Scanned.{after_links, entry_number, scan_shortens, search_found, search_passed}
use Rattle.k_senders.specs.Entries.{sender_of}
use Rattle.k_ipc.proofs.candidates.search.Goals as goal

pub returns-then-admits-clause-candidate : goal.returns-then-admits-clause-candidate
returns-then-admits-clause-candidate c =
    let t : admits c.args.from (sender_of c.entry_at-entry.result) ≡ true = ap (admits c.args.from) (sym c.sender.ensures.sender) ∙ sym c.admits.ensures ∙ c.if-admits.true in
    search_found c.args.from c.loop-at.at c.in-Some.number c.args.queue.now.entries c.entry_at-entry.result c.in-Some.is c.entry_at-entry.ensures t ∙ c.loop-at.invariant.1

pub returns-then-admits-clause-standing : goal.returns-then-admits-clause-standing
returns-then-admits-clause-standing c =
    let es = c.args.queue.now.entries in
    let same = entry_number c.in-Some.number es c.entry_at-entry.result c.entry_at-entry.ensures in
    subst (λ (n : ℕ). entry_of n es ≡ Some c.entry_at-entry.result) (sym same) c.entry_at-entry.ensures

pub loop-at-smaller : goal.loop-at-smaller
loop-at-smaller c =
    let es = c.args.queue.now.entries in
    let shorter = scan_shortens c.loop-at.at c.in-Some.number es c.entry_at-entry.result c.holds.ensures.once c.in-Some.is c.entry_at-entry.ensures in
    rw c.after-at.ensures shorter

pub loop-at-preserved : goal.loop-at-preserved
loop-at-preserved c =
    let es = c.args.queue.now.entries in
    let n = c.in-Some.number in
    let f : admits c.args.from (sender_of c.entry_at-entry.result) ≡ false = ap (admits c.args.from) (sym c.sender.ensures.sender) ∙ sym c.admits.ensures ∙ c.if-admits.false in
    let passed = search_passed c.args.from c.loop-at.at n es c.entry_at-entry.result c.holds.ensures.once c.in-Some.is c.entry_at-entry.ensures f in
    (rw c.after-at.ensures (after_links n es), rw c.after-at.ensures (passed ∙ c.loop-at.invariant.1))
