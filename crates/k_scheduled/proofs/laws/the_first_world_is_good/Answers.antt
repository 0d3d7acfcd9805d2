use Rattle.k_scheduled.proofs.Good.{good_first}
use Rattle.k_scheduled.proofs.laws.the_first_world_is_good.Goals as goal

pub returns : goal.returns
returns c = λ script limits.
    good_first script limits (c.the_kernel_holds_at_the_start.ensures script script.carriers limits limits.carriers.1)
