use Rattle.std.proofs.Common.{◌≡◌, map}
use Rattle.std.specs.List.{range_with_len}
use Rattle.k_world.specs.Boot.{has_start}
use Rattle.k_core.proofs.boot.unstarted_of.Given as goal

abbrev pub invariant-loop-number : goal.invariant-loop-number
invariant-loop-number l = l.unstarted.items ≡ map (has_start l.script) (range_with_len 0 l.number)
