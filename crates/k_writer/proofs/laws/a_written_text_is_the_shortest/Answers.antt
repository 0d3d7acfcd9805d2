use Rattle.k_writer.proofs.Layouts.{text_taken}
use Rattle.k_writer.proofs.laws.a_written_text_is_the_shortest.Goals as goal

pub returns-clause-again : goal.returns-clause-again
returns-clause-again c = text_taken
