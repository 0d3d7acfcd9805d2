use Rattle.std.proofs.Common.{◌≡◌, ◌+◌, ◌++◌, map, length}
use Rattle.std.specs.Option.{option_copied, option_map_or}
use Rattle.k_lines.specs.Words.{parted}
use Rattle.k_lines.proofs.Cut.{parted_rest}
use Rattle.k_lines.proofs.words.parts.Given as goal

abbrev pub invariant-loop-rest : goal.invariant-loop-rest
invariant-loop-rest l = map (λ w. w.now) l.words.items ++ parted_rest (option_copied l.rest) ≡ parted l.text

abbrev pub decreases-loop-rest : goal.decreases-loop-rest
decreases-loop-rest l = option_map_or (λ r. length r.now + 1) l.rest 0
