use Rattle.std.proofs.Common.{◌≡◌, ◌≤◌, ◌-◌, ℕ, List, [], ◌∷◌, ◌++◌}
use Rattle.k_input.specs.Taken.{IsTaken}
use Rattle.k_input.specs.Division.{IsSurelyLarge}
use Rattle.k_input.proofs.Dividing.{Divides}
use Rattle.k_input.proofs.read.read_divided.Given as goal

abbrev pub invariant-loop-buffer : goal.invariant-loop-buffer
invariant-loop-buffer g l =
    IsTaken (g.S.Source.left l.initial.source) (g.S.Source.left l.source) l.bytes.items
    × Divides l.bytes.items l.divider
    × ((start : List ℕ) (b : ℕ) → l.bytes.items ≡ start ++ b ∷ [] → ¬ IsSurelyLarge start)
    × (l.divider.len ≤ 135266305)
    × (g.S.Source.faults l.source ≡ g.S.Source.faults l.initial.source)

abbrev pub decreases-loop-buffer : goal.decreases-loop-buffer
decreases-loop-buffer g l = 135266305 - l.divider.len
