use Rattle.std.proofs.Common.{◌≡◌, ◌++◌, take}
use Rattle.std.specs.List.{flat_map}
use Rattle.k_reader.specs.Grammar.{program_lines}
use Rattle.k_writer.proofs.Parts.{text}
use Rattle.k_writer.proofs.writer.put_programs.Given as goal

abbrev pub invariant-loop-program : goal.invariant-loop-program
invariant-loop-program l = l.text.items ≡ l.initial.text.items ++ text (flat_map (program_lines l.script.programs) (take l.program l.script.programs))
