use Rattle.std.proofs.Common.{◌≡◌, ◌≤◌, ◌+◌, length}
use Rattle.std.specs.List.{sum_by}
use Rattle.k_script.specs.Limits.{steps_of}
use Rattle.k_reader.proofs.turns.turned_after.Given as goal

abbrev pub invariant-loop-rest : goal.invariant-loop-rest
invariant-loop-rest l = (l.turned + sum_by steps_of l.rest ≡ l.fn.turned + sum_by steps_of l.items) × (l.turned ≤ 1000000)

abbrev pub decreases-loop-rest : goal.decreases-loop-rest
decreases-loop-rest l = length l.rest
