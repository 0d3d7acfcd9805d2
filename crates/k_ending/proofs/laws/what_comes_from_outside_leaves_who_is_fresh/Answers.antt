use Rattle.k_ending.proofs.Outside.{parked_fresh, sliced_fresh, started_fresh}
use Rattle.k_ending.proofs.laws.what_comes_from_outside_leaves_who_is_fresh.Goals as goal

pub returns-clause-start : goal.returns-clause-start
returns-clause-start c = started_fresh

pub returns-clause-slice : goal.returns-clause-slice
returns-clause-slice c = sliced_fresh

pub returns-clause-park : goal.returns-clause-park
returns-clause-park c = parked_fresh
