use Rattle.k_reader.proofs.Meaning.{read_to}
use Rattle.k_reader.proofs.reader.read_script.Goals as goal

pub finish-requires : goal.finish-requires
finish-requires c = read_to c.args.bytes.now _ c.read_lines.new.sketch c.in_ok-opening.ensures.0 (rw (← c.new-sketch.ensures) c.in_ok-lines.ensures.read.0)
