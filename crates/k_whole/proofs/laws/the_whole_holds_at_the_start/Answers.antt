use Rattle.k_whole.proofs.Wholes.{whole_starts}
use Rattle.k_whole.proofs.laws.the_whole_holds_at_the_start.Goals as goal

pub returns : goal.returns
returns c = λ script b o limits h. whole_starts script limits b o h
