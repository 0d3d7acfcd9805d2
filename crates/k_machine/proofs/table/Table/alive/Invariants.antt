use Rattle.std.proofs.Common.{◌≡◌, ◌≤◌, not}
use Rattle.k_model.specs.Maps.{count}
use Rattle.k_model.specs.State.{is_dead}
use Rattle.k_machine.specs.Machine.{state_of}
use Rattle.k_machine.proofs.table.Table.alive.Given as goal

abbrev pub invariant-loop-number : goal.invariant-loop-number
invariant-loop-number l = (l.count ≡ count (λ n. not (is_dead ((state_of l.self.lists).place n).status)) l.number) × (l.count ≤ l.number)
