use Rattle.k_reader.proofs.Meaning.{script-read}
use Rattle.k_reader.proofs.reader.read.Goals as goal

pub returns-clause-text : goal.returns-clause-text
returns-clause-text c = script-read c.args.bytes.now c.in_ok-script.script c.in_ok-script.ensures
