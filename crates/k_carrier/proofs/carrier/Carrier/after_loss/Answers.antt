use Rattle.std.proofs.Common.{refl}
use Rattle.k_carrier.proofs.carrier.Carrier.after_loss.Goals as goal

pub returns-clause-told : goal.returns-clause-told
returns-clause-told c =
    let s = c.args.script.now in
    rw (c.told_word.ensures, c.context_at.ensures s, c.target.ensures s, c.context_word.ensures.word) refl
