use Rattle.k_running.proofs.Start.{first_kernel_holds}
use Rattle.k_running.proofs.laws.the_kernel_holds_at_the_start.Goals as goal

pub returns : goal.returns
returns c = λ script carriers limits few. first_kernel_holds script carriers limits few
    (c.the_kernel_stands_at_the_start.ensures script carriers limits few)
    (c.words_hold_at_the_start.ensures script carriers limits few)
    (c.the_marks_hold_at_the_start.ensures script carriers limits few)
