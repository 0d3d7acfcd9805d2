use Rattle.k_good.proofs.LockTurns.{locks_keep}
use Rattle.k_good.proofs.laws.locks_name_contexts_after_any_turn.Goals as goal

pub returns : goal.returns
returns c = λ g b b' i f h t. locks_keep g b f h i b' t
