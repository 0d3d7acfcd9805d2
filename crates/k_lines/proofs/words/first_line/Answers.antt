use Rattle.std.proofs.Common.{sym}
use Rattle.k_lines.proofs.Feeds.{lines_none, lines_some}
use Rattle.k_lines.proofs.words.first_line.Goals as goal

pub returns-in-None-clause-split : goal.returns-in-None-clause-split
returns-in-None-clause-split c = lines_none c.args.bytes.now c.requires (sym c.in-None.ensures)

pub returns-in-Some-clause-split : goal.returns-in-Some-clause-split
returns-in-Some-clause-split c = lines_some c.args.bytes.now c.in-Some.at (sym c.in-Some.ensures)
