use Rattle.std.proofs.Common.{◌≡◌, [], take}
use Rattle.std.specs.List.{fold}
use Rattle.k_calls.specs.Counting.{counted}
use Rattle.k_calls.proofs.lines.counted.Given as goal

abbrev pub invariant-loop-mark : goal.invariant-loop-mark
invariant-loop-mark l = l.parts.items ≡ fold counted [] (take l.mark-index l.marks)
