use Rattle.std.proofs.Common.{◌≡◌, ◌+◌, ◌≤◌, length}
use Rattle.k_lines.specs.Words.{lines_of}
use Rattle.k_reader.specs.Reading.{read_from}
use Rattle.k_reader.proofs.reader.read_opening.Given as goal

abbrev pub invariant-loop-rest : goal.invariant-loop-rest
invariant-loop-rest l =
    (read_from (l.lines + 1) (lines_of l.rest) ≡ read_from 1 (lines_of l.bytes))
    × (l.lines + length (lines_of l.rest) ≡ length (lines_of l.bytes))
    × (l.lines + length l.rest ≤ 1048576)

abbrev pub decreases-loop-rest : goal.decreases-loop-rest
decreases-loop-rest l = length l.rest
