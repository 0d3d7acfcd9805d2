use Rattle.std.proofs.Common.{◌≡◌}
use Rattle.std.specs.List.{flat_map, range_with_len}
use Rattle.k_world.specs.Boot.{boot_words}
use Rattle.k_core.proofs.boot.words_of.Given as goal

abbrev pub invariant-loop-number : goal.invariant-loop-number
invariant-loop-number l = l.words.items ≡ flat_map (boot_words l.script l.carriers)
    (range_with_len 0 l.number)
