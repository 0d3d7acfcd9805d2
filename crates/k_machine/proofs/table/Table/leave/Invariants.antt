use Rattle.std.proofs.Common.{length, ℕ, ◌<◌, ◌≡◌, ◌≤◌, get_or}
use Rattle.k_model.specs.State.{nowhere}
use Rattle.k_model.specs.Step.{left_by}
use Rattle.k_machine.proofs.table.Table.leave.Given as goal

abbrev pub invariant-loop-seat : goal.invariant-loop-seat
invariant-loop-seat l =
    (length l.seat-items ≡ length l.fn.self.lists.places)
    × ((k : ℕ) → k < l.seat-index → get_or l.seat-items k nowhere ≡ left_by l.who (get_or l.fn.self.lists.places k nowhere))
    × ((k : ℕ) → l.seat-index ≤ k → get_or l.seat-items k nowhere ≡ get_or l.fn.self.lists.places k nowhere)
