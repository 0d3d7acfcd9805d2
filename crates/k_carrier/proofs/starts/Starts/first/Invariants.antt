use Rattle.std.proofs.Common.{ℕ, ◌≡◌, ◌<◌, false}
use Rattle.k_carrier.specs.Starts.{is_due}
use Rattle.k_carrier.proofs.starts.Starts.first.Given as goal

abbrev pub invariant-loop-number : goal.invariant-loop-number
invariant-loop-number l = (n : ℕ) → n < l.number → is_due l.self n ≡ false
