use Rattle.k_calls.proofs.Told.{one_list}
use Rattle.k_calls.proofs.laws.marks_have_one_list_of_calls.Goals as goal

pub returns : goal.returns
returns c = one_list
