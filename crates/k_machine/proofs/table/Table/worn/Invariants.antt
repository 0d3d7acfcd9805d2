use Rattle.std.proofs.Common.{◌≡◌, ◌≤◌, ◌==◌, ◌&&◌}
use Rattle.k_model.specs.Maps.{count}
use Rattle.k_model.specs.State.{is_dead}
use Rattle.k_model.specs.Step.{last_version}
use Rattle.k_machine.specs.Machine.{state_of}
use Rattle.k_machine.proofs.table.Table.worn.Given as goal

abbrev pub invariant-loop-number : goal.invariant-loop-number
invariant-loop-number l = (l.count ≡ count (λ n. is_dead ((state_of l.self.lists).place n).status && (((state_of l.self.lists).place n).version == last_version)) l.number) × (l.count ≤ l.number)
