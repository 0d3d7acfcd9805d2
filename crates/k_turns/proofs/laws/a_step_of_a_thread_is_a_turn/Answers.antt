use Rattle.k_turns.proofs.Comes.{thread_comes}
use Rattle.k_turns.proofs.laws.a_step_of_a_thread_is_a_turn.Goals as goal

pub returns : goal.returns
returns c = thread_comes
