use Rattle.k_beginning.proofs.Starts.{first_kernel}
use Rattle.k_beginning.proofs.laws.the_kernel_stands_at_the_start.Goals as goal

pub returns : goal.returns
returns c = λ script carriers limits few. first_kernel script carriers limits few
