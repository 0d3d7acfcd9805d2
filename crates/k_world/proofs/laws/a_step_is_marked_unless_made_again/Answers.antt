use Rattle.k_world.proofs.Steps.{step_marked}
use Rattle.k_world.proofs.laws.a_step_is_marked_unless_made_again.Goals as goal

pub returns-clause-section : goal.returns-clause-section
returns-clause-section c = λ h s a runner. step_marked h.value s a runner
