use Rattle.std.proofs.Common.{List, ap, ◌∙◌, Option, ℕ}
use Rattle.k_senders.specs.declared.entries.SenderEntry.{SenderEntry}
use Rattle.k_senders.specs.Entries.{number_of}
use Rattle.k_senders.specs.Queue.{number_after}
use Rattle.k_ipc.specs.Candidates.{first_admitted, linked}
use Rattle.k_ipc.proofs.Scanned.{after_links, entry_stands, linked_after}
use Rattle.k_ipc.proofs.candidates.next_candidate.Goals as goal

pub after-requires : goal.after-requires
after-requires c = rw c.number.ensures.number (entry_stands (number_of c.args.entry) c.args.queue.now.entries c.args.entry c.requires)

pub search-requires : goal.search-requires
search-requires c = rw (c.after.ensures, c.number.ensures.number) (after_links (number_of c.args.entry) c.args.queue.now.entries)

pub returns-clause-candidate : goal.returns-clause-candidate
returns-clause-candidate c =
    let es = c.args.queue.now.entries in
    c.search.ensures.candidate
    ∙ ap (λ (o : Option ℕ). first_admitted c.args.from (linked o es)) (c.after.ensures ∙ ap (λ (n : ℕ). number_after n es) c.number.ensures.number)
    ∙ ap (λ (xs : List SenderEntry). first_admitted c.args.from xs) (linked_after (number_of c.args.entry) es c.holds.ensures.once)
