use Rattle.std.proofs.Common.{◌++◌, decimal}
use Rattle.std.specs.Prelude.{codes}
use Rattle.k_text.proofs.Joined.{four_parts}
use Rattle.k_text.proofs.line.Line.push_full.Goals as goal

pub returns-clause-text : goal.returns-clause-text
returns-clause-text c =
    rw (c.push_small-2.ensures.text, c.push-2.ensures.text, c.push_small.ensures.text, c.push.ensures.text)
    (four_parts c.args.self.now (codes " full alive") (codes " " ++ decimal c.args.alive) (codes " worn") (codes " " ++ decimal c.args.worn))
