use Rattle.std.proofs.Common.{◌≡◌, length, []}
use Rattle.std.specs.List.{All}
use Rattle.k_ready.proofs.lists.empty_chains.Given as goal

abbrev pub invariant-loop : goal.invariant-loop
invariant-loop l = (length l.chains.items ≡ l.counter) × All (λ es. es ≡ []) l.chains.items
