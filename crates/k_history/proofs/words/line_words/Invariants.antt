use Rattle.std.proofs.Common.{◌≡◌, ◌≤◌, ◌+◌, ◌++◌, map, take, length}
use Rattle.std.specs.Option.{option_copied, option_map_or}
use Rattle.k_history.specs.Reading.{parts_of}
use Rattle.k_history.proofs.Cut.{parts_left}
use Rattle.k_history.proofs.words.line_words.Given as goal

abbrev pub invariant-loop-rest : goal.invariant-loop-rest
invariant-loop-rest l =
    (map (λ w. w.now) (take l.count l.words) ++ parts_left (option_copied l.rest) ≡ parts_of l.line) × (l.count ≤ 13) × (length l.words ≡ 13)

abbrev pub decreases-loop-rest : goal.decreases-loop-rest
decreases-loop-rest l = option_map_or (λ r. length r.now + 1) l.rest 0
