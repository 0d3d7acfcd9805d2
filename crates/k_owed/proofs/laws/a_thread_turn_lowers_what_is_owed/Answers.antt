use Rattle.k_owed.proofs.Turns.{thread_turn}
use Rattle.k_owed.proofs.laws.a_thread_turn_lowers_what_is_owed.Goals as goal

pub returns : goal.returns
returns c = λ g work b b' i count counts proper left inside thread t silent made.
    thread_turn g work b proper i count inside counts left thread b' t silent made
