use Rattle.k_ipc.specs.SendTable.{IsSound}
use Rattle.k_ipc.proofs.tests.sends.walk.Given as goal

abbrev pub invariant-loop-row : goal.invariant-loop-row
invariant-loop-row g l = IsSound l.section
