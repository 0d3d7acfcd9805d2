use Rattle.std.proofs.Common.{◌≡◌, ◌≤◌, ◌+◌, length}
use Rattle.k_machine.specs.Machine.{state_of}
use Rattle.k_positions.specs.Positions.{ArePlaces, positions_in}
use Rattle.k_history.proofs.Judged.{Checked}
use Rattle.k_history.proofs.judging.check.Given as goal

abbrev pub invariant-loop-positions : goal.invariant-loop-positions
invariant-loop-positions l =
    Checked l.script l.bytes l.rest l.index (state_of l.machine.lists) (positions_in l.script l.positions)
    × ((state_of l.machine.lists).size ≡ l.script.table)
    × ArePlaces l.script l.positions
    × (l.index + length l.rest ≤ length l.bytes)

abbrev pub decreases-loop-positions : goal.decreases-loop-positions
decreases-loop-positions l = length l.rest
