use Rattle.k_plays.proofs.Points.{goes_on_with}
use Rattle.k_plays.proofs.laws.a_thread_goes_on_with_its_program.Goals as goal

pub returns-clause-gives : goal.returns-clause-gives
returns-clause-gives c =
    λ script g es k s who q l limits are h inside told walk.
    are.gives q l (goes_on_with script g es k s who q l limits are h inside told walk).bounds

pub returns-clause-bounds : goal.returns-clause-bounds
returns-clause-bounds c =
    λ script g es k s who q l limits are h inside told walk.
    (goes_on_with script g es k s who q l limits are h inside told walk).bounds
