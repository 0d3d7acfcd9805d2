use Rattle.k_lines.proofs.Spelled.{line-read, line-spelled_words, line-named}
use Rattle.k_lines.proofs.laws.a_line_is_spelled.Goals as goal

pub returns-clause-read : goal.returns-clause-read
returns-clause-read c = line-read

pub returns-clause-spelled : goal.returns-clause-spelled
returns-clause-spelled c = line-spelled_words

pub returns-clause-named : goal.returns-clause-named
returns-clause-named c = line-named
