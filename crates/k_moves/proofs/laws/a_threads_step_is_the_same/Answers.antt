use Rattle.k_moves.proofs.Threads.{thread_carrier, thread_steps}
use Rattle.k_moves.proofs.laws.a_threads_step_is_the_same.Goals as goal

pub returns-clause-step : goal.returns-clause-step
returns-clause-step c = thread_steps

pub returns-clause-carrier : goal.returns-clause-carrier
returns-clause-carrier c = thread_carrier
