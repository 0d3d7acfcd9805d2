use Rattle.k_ipc.specs.ReceiveTable.{IsSound}
use Rattle.k_ipc.proofs.tests.receives.walk.Given as goal

abbrev pub invariant-loop-row : goal.invariant-loop-row
invariant-loop-row g l = IsSound l.section
