use Rattle.k_context.proofs.context.Context.left.Goals as goal

pub returns-in-Thread : goal.returns-in-Thread
returns-in-Thread c = λ script. rw c.in-Thread.is (c.left.ensures script)
