use Rattle.std.proofs.Common.{◌≡◌, ◌++◌, map, take}
use Rattle.k_reader.specs.Grammar.{at_line}
use Rattle.k_writer.proofs.Parts.{text}
use Rattle.k_writer.proofs.writer.put_events.Given as goal

abbrev pub invariant-loop-event : goal.invariant-loop-event
invariant-loop-event l = l.text.items ≡ l.initial.text.items ++ text (map at_line (take l.event-index l.events))
