use Rattle.std.proofs.Common.{◌≡◌, ◌≤◌, ◌-◌, vec_len}
use Rattle.k_input.specs.Taken.{IsTaken}
use Rattle.k_input.proofs.read.read_all.Given as goal

abbrev pub invariant-loop-buffer : goal.invariant-loop-buffer
invariant-loop-buffer g l =
    IsTaken (g.S.Source.left l.initial.source) (g.S.Source.left l.source) l.bytes.items × (vec_len l.bytes ≤ 1048577) × (g.S.Source.faults l.source ≡ g.S.Source.faults l.initial.source)

abbrev pub decreases-loop-buffer : goal.decreases-loop-buffer
decreases-loop-buffer g l = 1048577 - vec_len l.bytes
