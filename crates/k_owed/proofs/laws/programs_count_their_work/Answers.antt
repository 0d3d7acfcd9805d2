use Rattle.k_owed.proofs.Works.{counts_work}
use Rattle.k_owed.proofs.laws.programs_count_their_work.Goals as goal

pub returns : goal.returns
returns c = counts_work
