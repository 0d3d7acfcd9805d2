use Rattle.std.proofs.Common.{sym}
use Rattle.k_lists.proofs.Cuts.{before_none, before_some}
use Rattle.k_lines.specs.Words.{begins_comment}
use Rattle.k_lines.proofs.words.without_comment.Goals as goal

pub returns-in-None : goal.returns-in-None
returns-in-None c = sym (before_none begins_comment c.args.line.now (sym c.in-None.ensures))

pub returns-in-Some : goal.returns-in-Some
returns-in-Some c = sym (before_some begins_comment c.args.line.now c.in-Some.at (sym c.in-Some.ensures))
