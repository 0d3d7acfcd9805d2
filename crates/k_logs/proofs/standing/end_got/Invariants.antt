use Rattle.std.proofs.Common.{◌≡◌, ◌++◌, drop, length, map, take}
use Rattle.k_world.specs.Marks.{all_got, still_waits}
use Rattle.k_logs.proofs.standing.end_got.Given as goal

abbrev pub invariant-loop-place : goal.invariant-loop-place
invariant-loop-place l =
    (l.standing ≡ map (still_waits l.requester l.fn.marks) (take l.place-index l.fn.standing) ++ drop l.place-index l.fn.standing)
    × (l.marks ≡ all_got l.requester (take l.place-index l.fn.standing) l.fn.marks)
    × (length l.standing ≡ length l.fn.standing)
