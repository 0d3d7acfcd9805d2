use Rattle.std.proofs.Common.{◌≡◌, [], take}
use Rattle.std.specs.List.{fold}
use Rattle.k_calls.specs.Counting.{added}
use Rattle.k_calls.proofs.lines.joined.Given as goal

abbrev pub invariant-loop-part : goal.invariant-loop-part
invariant-loop-part l = l.lines.items ≡ fold added [] (take l.part-index l.parts)
