use Rattle.k_owed.proofs.Waits.{again_leaves, owed_stays, steps_stay}
use Rattle.k_owed.proofs.laws.who_waits_for_a_lock_owes_the_same.Goals as goal

pub returns-clause-owed : goal.returns-clause-owed
returns-clause-owed c = λ g b b' i count t again. owed_stays b b' count (again_leaves g b i b' t again)

pub returns-clause-steps : goal.returns-clause-steps
returns-clause-steps c = λ g work b b' i count t again. steps_stay work b b' count (again_leaves g b i b' t
    again)
