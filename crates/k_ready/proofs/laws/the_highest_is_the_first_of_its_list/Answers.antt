use Rattle.k_ready.proofs.Popped.{highest_first, highest_none}
use Rattle.k_ready.proofs.laws.the_highest_is_the_first_of_its_list.Goals as goal

pub returns-clause-some : goal.returns-clause-some
returns-clause-some c = highest_first

pub returns-clause-none : goal.returns-clause-none
returns-clause-none c = highest_none
