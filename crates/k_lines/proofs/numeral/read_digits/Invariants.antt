use Rattle.std.proofs.Common.{◌≡◌, ◌≤◌, length}
use Rattle.std.specs.Prelude.{min}
use Rattle.std.specs.Str.{all_ascii_digits}
use Rattle.k_lines.specs.Numbers.{read_on}
use Rattle.k_lines.proofs.numeral.read_digits.Given as goal

abbrev pub invariant-loop-rest : goal.invariant-loop-rest
invariant-loop-rest l =
    (min (read_on l.value l.rest) 4294967296 ≡ min (read_on 0 l.word) 4294967296) × (all_ascii_digits l.rest ≡ all_ascii_digits l.word) × (l.value ≤ 4294967296)

abbrev pub decreases-loop-rest : goal.decreases-loop-rest
decreases-loop-rest l = length l.rest
