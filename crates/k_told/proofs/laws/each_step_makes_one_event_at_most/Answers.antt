use Rattle.k_world.specs.Steps.{entry_of, moved, step_in}
use Rattle.k_kernel.proofs.Runs.{later_shown, moved_history}
use Rattle.k_told.proofs.Events.{is_at, makes_event, makes_nothing}
use Rattle.k_told.proofs.Runnable.{world_of}
use Rattle.k_told.proofs.laws.each_step_makes_one_event_at_most.Goals as goal

pub returns-clause-turns : goal.returns-clause-turns
returns-clause-turns c = λ script w n limits room h low.
    later_shown script limits n w (world_of script w h) room (c.a_step_can_be_made.ensures script w n limits h low)

pub returns-clause-event : goal.returns-clause-event
returns-clause-event c = λ script w n limits room h low k f e q.
    makes_event script w (moved script n w) (c.every_step_keeps_the_kernel.ensures script w n limits room low h)
    (entry_of w (step_in script n w)) (moved_history script w n) k f e q

pub returns-clause-nothing : goal.returns-clause-nothing
returns-clause-nothing c = λ script w n limits room h low k f q.
    makes_nothing script w (moved script n w) (c.every_step_keeps_the_kernel.ensures script w n limits room low h)
    (entry_of w (step_in script n w)) (moved_history script w n) k f q

pub returns-clause-state : goal.returns-clause-state
returns-clause-state c = λ script w h k f. is_at script w h k f
