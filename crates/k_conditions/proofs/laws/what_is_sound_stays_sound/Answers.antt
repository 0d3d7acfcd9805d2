use Rattle.k_conditions.proofs.Stays.{all_sound}
use Rattle.k_conditions.proofs.laws.what_is_sound_stays_sound.Goals as goal

pub returns : goal.returns
returns c = λ script w b view state n limits h finished inside within. all_sound script limits w b view state
    h finished n inside within
