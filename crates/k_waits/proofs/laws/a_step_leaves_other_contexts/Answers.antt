use Rattle.k_waits.proofs.Others.{others_are, version_grows}
use Rattle.k_waits.proofs.laws.a_step_leaves_other_contexts.Goals as goal

pub returns-clause-contexts : goal.returns-clause-contexts
returns-clause-contexts c = others_are

pub returns-clause-versions : goal.returns-clause-versions
returns-clause-versions c = version_grows
