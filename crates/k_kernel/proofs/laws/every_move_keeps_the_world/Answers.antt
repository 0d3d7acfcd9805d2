use Rattle.k_kernel.proofs.Runs.{moved_history, moved_holds}
use Rattle.k_kernel.proofs.laws.every_move_keeps_the_world.Goals as goal

pub returns-clause-holds : goal.returns-clause-holds
returns-clause-holds c = λ script w k limits room r h. moved_holds script limits k w h room r

pub returns-clause-history : goal.returns-clause-history
returns-clause-history c = moved_history
