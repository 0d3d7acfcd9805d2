use Rattle.k_core.proofs.Ready.{HasReady}
use Rattle.k_core.proofs.boot.ready_of.Given as goal

abbrev pub invariant-loop-number : goal.invariant-loop-number
invariant-loop-number l = HasReady l.script l.number l.lists
