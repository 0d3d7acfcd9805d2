use Rattle.std.proofs.Common.{◌≡◌}
use Rattle.k_script.proofs.script.close_all.Given as goal

abbrev pub invariant-loop-program : goal.invariant-loop-program
invariant-loop-program l = l.program-items ≡ l.initial.program-items
