use Rattle.k_counted.proofs.Tallied.{booted_marks}
use Rattle.k_counted.proofs.laws.the_marks_hold_at_the_start.Goals as goal

pub returns : goal.returns
returns c = booted_marks
