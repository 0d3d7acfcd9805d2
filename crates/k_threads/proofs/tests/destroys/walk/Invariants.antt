use Rattle.k_threads.specs.DestroyTable.{IsSound}
use Rattle.k_threads.proofs.tests.destroys.walk.Given as goal

abbrev pub invariant-loop-row : goal.invariant-loop-row
invariant-loop-row g l = IsSound l.section
