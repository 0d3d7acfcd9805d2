use Rattle.k_lines.proofs.Digits.{numeral-read, numeral-spelled}
use Rattle.k_lines.proofs.laws.a_number_is_spelled.Goals as goal

pub returns-clause-read : goal.returns-clause-read
returns-clause-read c = numeral-read

pub returns-clause-spelled : goal.returns-clause-spelled
returns-clause-spelled c = numeral-spelled
