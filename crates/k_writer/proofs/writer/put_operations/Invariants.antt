use Rattle.std.proofs.Common.{◌≡◌, ◌++◌, take}
use Rattle.k_reader.specs.Grammar.{operation_lines}
use Rattle.k_writer.proofs.Parts.{text}
use Rattle.k_writer.proofs.writer.put_operations.Given as goal

abbrev pub invariant-loop-operation : goal.invariant-loop-operation
invariant-loop-operation l = l.text.items ≡ l.initial.text.items ++ text (operation_lines l.script.programs (take l.operation-index l.operations))
