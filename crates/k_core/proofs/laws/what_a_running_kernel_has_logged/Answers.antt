use Rattle.k_core.specs.Parts.{world_in}
use Rattle.k_core.proofs.laws.what_a_running_kernel_has_logged.Goals as goal

pub returns-clause-history : goal.returns-clause-history
returns-clause-history c = λ script p limits h.
    c.what_the_kernel_has_logged.ensures.history script (world_in script p) limits h.kernel

pub returns-clause-steps : goal.returns-clause-steps
returns-clause-steps c = λ script p h.
    c.what_the_kernel_has_logged.ensures.steps script (world_in script p) h.kernel

pub returns-clause-waits : goal.returns-clause-waits
returns-clause-waits c = λ script p h.
    c.what_the_kernel_has_logged.ensures.waits script (world_in script p) h.kernel
