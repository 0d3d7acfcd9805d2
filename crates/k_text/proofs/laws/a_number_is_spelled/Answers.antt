use Rattle.k_text.proofs.Digits.{number-read, number-spelled}
use Rattle.k_text.proofs.laws.a_number_is_spelled.Goals as goal

pub returns-clause-read : goal.returns-clause-read
returns-clause-read c = number-read

pub returns-clause-spelled : goal.returns-clause-spelled
returns-clause-spelled c = number-spelled
