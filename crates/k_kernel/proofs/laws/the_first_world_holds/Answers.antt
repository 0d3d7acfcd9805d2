use Rattle.k_kernel.proofs.Starts.{first_holds}
use Rattle.k_kernel.proofs.laws.the_first_world_holds.Goals as goal

pub returns : goal.returns
returns c = λ script carriers limits few. first_holds script carriers limits few c.the_board_holds_at_the_start.ensures
