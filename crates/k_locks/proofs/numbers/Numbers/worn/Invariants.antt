use Rattle.std.proofs.Common.{◌≡◌, ◌≤◌}
use Rattle.k_model.specs.Maps.{count}
use Rattle.k_locks.specs.Numbers.{is_worn}
use Rattle.k_locks.proofs.numbers.Numbers.worn.Given as goal

abbrev pub invariant-loop-number : goal.invariant-loop-number
invariant-loop-number l = (l.worn ≡ count (is_worn l.self) l.number) × (l.worn ≤ l.number)
