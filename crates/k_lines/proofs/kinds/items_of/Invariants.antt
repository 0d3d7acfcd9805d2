use Rattle.std.proofs.Common.{◌≡◌, ◌++◌, map, length, option_map}
use Rattle.k_lines.specs.Lines.{each_item}
use Rattle.k_lines.proofs.kinds.items_of.Given as goal

abbrev pub invariant-loop-rest : goal.invariant-loop-rest
invariant-loop-rest l = option_map (λ is. l.items.items ++ is) (each_item (map (λ w. w.now) l.rest)) ≡ each_item (map (λ w. w.now) l.words)

abbrev pub decreases-loop-rest : goal.decreases-loop-rest
decreases-loop-rest l = length l.rest
