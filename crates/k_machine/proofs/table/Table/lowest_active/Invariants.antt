use Rattle.std.proofs.Common.{ℕ, ◌≡◌, ◌<◌, false}
use Rattle.k_model.specs.History.{is_active}
use Rattle.k_machine.specs.Machine.{state_of}
use Rattle.k_machine.proofs.table.Table.lowest_active.Given as goal

abbrev pub invariant-loop-number : goal.invariant-loop-number
invariant-loop-number l = (n : ℕ) → n < l.number → is_active (state_of l.self.lists) n ≡ false
