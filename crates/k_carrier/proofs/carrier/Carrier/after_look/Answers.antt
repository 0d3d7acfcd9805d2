use Rattle.std.proofs.Common.{refl}
use Rattle.k_carrier.proofs.carrier.Carrier.after_look.Goals as goal

pub returns-clause-told : goal.returns-clause-told
returns-clause-told c =
    let s = c.args.script.now in
    rw (c.told_word.ensures, c.context_at-context.ensures s, c.target-target.ensures s, c.context_word-word.ensures.word) refl

pub returns-clause-carrier : goal.returns-clause-carrier
returns-clause-carrier c =
    let s = c.args.script.now in
    rw (c.look_at.ensures.carrier s, c.target-target.ensures s, c.context_word-word.ensures.word) refl
