use Rattle.k_moves.proofs.Outside.{park_is_same, park_keeps, slice_is_same, start_is_same}
use Rattle.k_moves.proofs.laws.what_comes_from_outside_is_the_same.Goals as goal

pub returns-clause-start : goal.returns-clause-start
returns-clause-start c = start_is_same

pub returns-clause-slice : goal.returns-clause-slice
returns-clause-slice c = slice_is_same

pub returns-clause-park : goal.returns-clause-park
returns-clause-park c = park_is_same

pub returns-clause-parked : goal.returns-clause-parked
returns-clause-parked c = park_keeps
