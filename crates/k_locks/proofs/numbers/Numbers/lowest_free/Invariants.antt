use Rattle.std.proofs.Common.{ℕ, ◌≡◌, ◌<◌, false}
use Rattle.k_locks.specs.Numbers.{is_free}
use Rattle.k_locks.proofs.numbers.Numbers.lowest_free.Given as goal

abbrev pub invariant-loop-number : goal.invariant-loop-number
invariant-loop-number l = (n : ℕ) → n < l.number → is_free l.self n ≡ false
