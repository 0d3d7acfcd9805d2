use Rattle.k_threads.proofs.create.steps.locked_step.Goals as goal

pub returns-in-Release-clause-step : goal.returns-in-Release-clause-step
returns-in-Release-clause-step c = λ own. rw c.in-Release.is (c.release.ensures c.args.call own)
