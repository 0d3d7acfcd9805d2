use Rattle.std.proofs.Common.{sym}
use Rattle.k_lists.proofs.Cuts.{cut_none, cut_some}
use Rattle.k_history.specs.Reading.{is_space}
use Rattle.k_history.proofs.words.first_part.Goals as goal

pub returns-in-None-clause-split : goal.returns-in-None-clause-split
returns-in-None-clause-split c = cut_none is_space c.args.text.now (sym c.in-None.ensures)

pub returns-in-Some-clause-split : goal.returns-in-Some-clause-split
returns-in-Some-clause-split c = cut_some is_space c.args.text.now c.in-Some.at 0 (sym c.in-Some.ensures)
