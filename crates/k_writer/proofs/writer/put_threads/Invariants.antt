use Rattle.std.proofs.Common.{◌≡◌, ◌++◌, map, take}
use Rattle.k_reader.specs.Grammar.{thread_line}
use Rattle.k_writer.proofs.Parts.{text}
use Rattle.k_writer.proofs.writer.put_threads.Given as goal

abbrev pub invariant-loop-thread : goal.invariant-loop-thread
invariant-loop-thread l = l.text.items ≡ l.initial.text.items ++ text (map (thread_line l.script.programs) (take l.thread-index l.script.threads))
