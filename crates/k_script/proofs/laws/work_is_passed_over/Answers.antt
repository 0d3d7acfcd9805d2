use Rattle.k_script.proofs.Onward.{works_on, calls_on}
use Rattle.k_script.proofs.laws.work_is_passed_over.Goals as goal

pub returns-clause-work : goal.returns-clause-work
returns-clause-work c = λ version count p last h. let w = works_on version count p last h in (w.phase, w.moved)

pub returns-clause-phase : goal.returns-clause-phase
returns-clause-phase c = λ version p last f h. let w = calls_on version p last f h in (w.phase, w.moved)
