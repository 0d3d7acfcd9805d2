use Rattle.k_running.proofs.Kernel.{kernel_of}
use Rattle.k_running.proofs.Outside.{parked_kernel, sliced_kernel, started_kernel}
use Rattle.k_running.proofs.laws.what_comes_from_outside_keeps_all.Goals as goal

pub returns-clause-start : goal.returns-clause-start
returns-clause-start c =
    λ script w k number limits h low due. started_kernel script w h k number
    (c.what_comes_from_outside_keeps_the_kernel.ensures.start script w h.board h.view h.state k number limits
    (kernel_of script w h) low due) (c.what_comes_from_outside_keeps_the_marks.ensures.started script w k number h.marks)

pub returns-clause-slice : goal.returns-clause-slice
returns-clause-slice c =
    λ script w k limits h low. sliced_kernel script w h k
    (c.what_comes_from_outside_keeps_the_kernel.ensures.slice script w h.board h.view h.state k limits (kernel_of script w h) low)
    (c.what_comes_from_outside_keeps_the_marks.ensures.sliced script w k h.marks)

pub returns-clause-park : goal.returns-clause-park
returns-clause-park c =
    λ script w k limits h low. parked_kernel script w h k
    (c.what_comes_from_outside_keeps_the_kernel.ensures.park script w h.board h.view h.state k limits (kernel_of script w h) low)
    (c.what_comes_from_outside_keeps_the_marks.ensures.parked script w k h.marks)
