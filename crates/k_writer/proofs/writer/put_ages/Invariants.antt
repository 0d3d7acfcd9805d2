use Rattle.std.proofs.Common.{◌≡◌, ◌++◌, map, take}
use Rattle.k_reader.specs.Grammar.{aged_line}
use Rattle.k_writer.specs.Canonical.{ages_from}
use Rattle.k_writer.proofs.Parts.{text}
use Rattle.k_writer.proofs.writer.put_ages.Given as goal

abbrev pub invariant-loop-number : goal.invariant-loop-number
invariant-loop-number l = l.text.items ≡ l.initial.text.items ++ text (map aged_line (ages_from 0 (take l.number l.script.aged)))
