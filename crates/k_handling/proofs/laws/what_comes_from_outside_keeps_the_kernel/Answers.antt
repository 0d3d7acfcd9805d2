use Rattle.k_handling.proofs.Handles.{moment}
use Rattle.k_handling.proofs.Outside.{park_stands, slice_stands, start_stands}
use Rattle.k_handling.proofs.laws.what_comes_from_outside_keeps_the_kernel.Goals as goal

pub returns-clause-start : goal.returns-clause-start
returns-clause-start c =
    λ script w b view state k number limits kernel low due.
    start_stands (moment script limits w b view state kernel k low) number due

pub returns-clause-slice : goal.returns-clause-slice
returns-clause-slice c =
    λ script w b view state k limits kernel low. slice_stands (moment script limits w b view state kernel k low)

pub returns-clause-park : goal.returns-clause-park
returns-clause-park c =
    λ script w b view state k limits kernel low. park_stands (moment script limits w b view state kernel k low)
