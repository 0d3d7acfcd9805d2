use Rattle.std.proofs.Common.{[], ◌∷◌, codes, decimal}
use Rattle.k_report.specs.Waits.{end_word, owner_word, want_words}
use Rattle.k_report.proofs.Chains.{words_pushed}
use Rattle.k_report.proofs.words.wait_line.Goals as goal

pub returns-clause-text : goal.returns-clause-text
returns-clause-text c =
    let m = c.args.mark.now in
    rw (c.push_word.ensures.text, c.push_counts.ensures.text, c.push_end.ensures.text, c.push_want.ensures.text, c.push_number.ensures.text, c.push_owner.ensures.text, c.push.ensures.text, c.new-line.ensures)
    (words_pushed (codes "wait") (owner_word m.requester) (decimal m.serial) (want_words m.wants) (end_word m.got) (codes "allowed" ∷ decimal m.allowed ∷ codes "used" ∷ decimal m.used ∷ []) (codes "chain"))
