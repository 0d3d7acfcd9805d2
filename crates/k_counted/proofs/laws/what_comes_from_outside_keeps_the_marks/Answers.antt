use Rattle.k_counted.proofs.Tallied.{parked_counts, sliced_counts, started_counts}
use Rattle.k_counted.proofs.laws.what_comes_from_outside_keeps_the_marks.Goals as goal

pub returns-clause-started : goal.returns-clause-started
returns-clause-started c = started_counts

pub returns-clause-sliced : goal.returns-clause-sliced
returns-clause-sliced c = sliced_counts

pub returns-clause-parked : goal.returns-clause-parked
returns-clause-parked c = parked_counts
