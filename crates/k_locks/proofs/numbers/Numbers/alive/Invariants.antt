use Rattle.std.proofs.Common.{◌≡◌, ◌≤◌}
use Rattle.k_model.specs.Maps.{count}
use Rattle.k_locks.specs.Numbers.{is_present}
use Rattle.k_locks.proofs.numbers.Numbers.alive.Given as goal

abbrev pub invariant-loop-number : goal.invariant-loop-number
invariant-loop-number l = (l.alive ≡ count (is_present l.self) l.number) × (l.alive ≤ l.number)
