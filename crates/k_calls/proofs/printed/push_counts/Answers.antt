use Rattle.std.proofs.Common.{◌++◌, decimal}
use Rattle.std.specs.Prelude.{codes}
use Rattle.k_text.proofs.Joined.{four_parts}
use Rattle.k_calls.proofs.printed.push_counts.Goals as goal

pub returns-clause-text : goal.returns-clause-text
returns-clause-text c =
    rw (c.push_number-2.ensures.text, c.push_word-2.ensures.text, c.push_number.ensures.text, c.push_word.ensures.text)
    (four_parts c.args.line.now (codes " steps") (codes " " ++ decimal c.args.call.now.steps) (codes " helped") (codes " " ++ decimal c.args.call.now.helped))
