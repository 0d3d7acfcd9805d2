use Rattle.k_pushes.proofs.Carried.{pushes_start}
use Rattle.k_pushes.proofs.laws.pushes_hold_at_the_start.Goals as goal

pub returns : goal.returns
returns c = λ g b h. pushes_start g b h
