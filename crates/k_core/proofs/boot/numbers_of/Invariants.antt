use Rattle.k_core.proofs.Numbers.{HasFirst}
use Rattle.k_core.proofs.boot.numbers_of.Given as goal

abbrev pub invariant-loop-number : goal.invariant-loop-number
invariant-loop-number l = HasFirst l.script l.number l.numbers
