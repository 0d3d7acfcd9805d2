use Rattle.k_core.proofs.world.holder_in.Goals as goal

pub returns-in-HeldUp : goal.returns-in-HeldUp
returns-in-HeldUp c = λ script w. rw c.in-HeldUp.is (c.holder_of.ensures script w)
