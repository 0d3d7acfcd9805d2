use Rattle.k_marks.proofs.Keeping.{changes_keep}
use Rattle.k_marks.proofs.laws.contexts_count_their_marks.Goals as goal

pub returns : goal.returns
returns c = λ table s t h k. changes_keep table s t h k
