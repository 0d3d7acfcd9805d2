use Rattle.std.proofs.Common.{◌≡◌, ◌≤◌, length}
use Rattle.std.specs.Str.{all_ascii_digits}
use Rattle.k_text.specs.Numbers.{read_on}
use Rattle.fiasco_run.proofs.number.read_digits.Given as goal

abbrev pub invariant-loop-rest : goal.invariant-loop-rest
invariant-loop-rest l =
    (read_on l.value l.rest ≡ read_on 0 l.word) × (all_ascii_digits l.rest ≡ all_ascii_digits l.word) × (l.value ≤ 18446744073709551615)

abbrev pub decreases-loop-rest : goal.decreases-loop-rest
decreases-loop-rest l = length l.rest
