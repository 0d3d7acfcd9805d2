use Rattle.k_threads.specs.CreateTable.{IsSound}
use Rattle.k_threads.proofs.tests.creates.walk.Given as goal

abbrev pub invariant-loop-row : goal.invariant-loop-row
invariant-loop-row g l = IsSound l.section
