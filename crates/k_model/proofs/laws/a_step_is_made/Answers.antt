use Rattle.k_model.specs.Step.{step}
use Rattle.k_model.proofs.Replays.{step_enabled}
use Rattle.k_model.proofs.laws.a_step_is_made.Goals as goal

pub returns-clause-enabled : goal.returns-clause-enabled
unfolding step
returns-clause-enabled c = λ k e h. rw h

pub returns-clause-only : goal.returns-clause-only
returns-clause-only c = λ k e new h. (step_enabled k e new h).0
