use Rattle.std.proofs.Common.{◌≡◌, ◌++◌, length, option_map}
use Rattle.k_reader.specs.Reading.{items_in}
use Rattle.k_reader.proofs.turns.items_in.Given as goal

abbrev pub invariant-loop-rest : goal.invariant-loop-rest
invariant-loop-rest l = option_map (λ is. l.items.items ++ is) (items_in l.carriers l.rest) ≡ items_in l.carriers l.words

abbrev pub decreases-loop-rest : goal.decreases-loop-rest
decreases-loop-rest l = length l.rest
