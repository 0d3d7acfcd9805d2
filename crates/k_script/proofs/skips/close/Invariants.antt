use Rattle.std.proofs.Common.{◌≡◌, length}
use Rattle.k_script.specs.Skips.{AreSkips}
use Rattle.k_script.proofs.skips.close.Given as goal

abbrev pub invariant-loop-place : goal.invariant-loop-place
invariant-loop-place l = record {
  size : length l.skips ≡ length l.operations;
  skips : AreSkips l.operations l.skips;
}
