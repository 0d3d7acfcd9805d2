use Rattle.std.proofs.Common.{◌≡◌, length, take}
use Rattle.k_script.specs.Script.{Script}
use Rattle.k_world.specs.Marks.{broken}
use Rattle.k_logs.specs.Seen.{carriers_in}
use Rattle.k_logs.proofs.standing.break_interrupted.Given as goal

abbrev pub invariant-loop-c : goal.invariant-loop-c
invariant-loop-c l =
    ((script : Script) → l.standing ≡ broken (take l.c (carriers_in script l.carriers)) l.fn.standing)
    × (length l.standing ≡ length l.fn.standing)
