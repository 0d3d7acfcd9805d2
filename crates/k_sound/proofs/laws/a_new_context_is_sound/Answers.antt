use Rattle.k_sound.proofs.Contexts.{own_new}
use Rattle.k_sound.proofs.Threads.{thread_new}
use Rattle.k_sound.proofs.laws.a_new_context_is_sound.Goals as goal

pub returns-clause-thread : goal.returns-clause-thread
returns-clause-thread c = thread_new

pub returns-clause-carrier : goal.returns-clause-carrier
returns-clause-carrier c = own_new
