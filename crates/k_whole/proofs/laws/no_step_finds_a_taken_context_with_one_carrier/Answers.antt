use Rattle.k_plays.specs.Scripts.{ranged_programs}
use Rattle.k_whole.proofs.Missed.{in_no_hand, is_free}
use Rattle.k_whole.proofs.laws.no_step_finds_a_taken_context_with_one_carrier.Goals as goal

pub returns-clause-taken : goal.returns-clause-taken
returns-clause-taken c =
    λ script b w es k n i t h single a apart. in_no_hand (ranged_programs script) b w h.pair h.hands single n i a t apart

pub returns-clause-removed : goal.returns-clause-removed
returns-clause-removed c =
    λ script b b' w es k n i h single a. is_free (ranged_programs script) b w h.pair h.hands single n i a b'
