use Rattle.k_running.proofs.Threads.{has_run}
use Rattle.k_running.proofs.laws.a_threads_step_keeps_the_kernel.Goals as goal

pub returns : goal.returns
returns c = λ script w b view state k n t limits room kernel runnable asks.
    has_run script limits room w b view state kernel k n t runnable asks
