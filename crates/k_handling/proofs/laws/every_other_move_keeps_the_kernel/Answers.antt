use Rattle.k_handling.proofs.Gives.{give_handled}
use Rattle.k_handling.proofs.Handles.{moment}
use Rattle.k_handling.proofs.Looks.{look_handled}
use Rattle.k_handling.proofs.Switches.{switch_handled}
use Rattle.k_handling.proofs.Takes.{take_handled}
use Rattle.k_handling.proofs.laws.every_other_move_keeps_the_kernel.Goals as goal

pub returns-clause-look : goal.returns-clause-look
returns-clause-look c =
    λ script w b view state k n limits kernel low asks. look_handled
    (moment script limits w b view state kernel k low) n asks

pub returns-clause-take : goal.returns-clause-take
returns-clause-take c =
    λ script w b view state k n bits limits kernel low asks. take_handled
    (moment script limits w b view state kernel k low) n bits asks

pub returns-clause-give : goal.returns-clause-give
returns-clause-give c =
    λ script w b view state k h limits kernel low asks. give_handled
    (moment script limits w b view state kernel k low) h asks

pub returns-clause-switch : goal.returns-clause-switch
returns-clause-switch c =
    λ script w b view state k n x limits kernel low asks. switch_handled
    (moment script limits w b view state kernel k low) n x asks
