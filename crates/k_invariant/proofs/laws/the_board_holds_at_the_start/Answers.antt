use Rattle.k_invariant.proofs.Starts.{board_starts}
use Rattle.k_invariant.proofs.laws.the_board_holds_at_the_start.Goals as goal

pub returns : goal.returns
returns c = λ script b limits h. board_starts script limits b h
