use Rattle.k_plays.specs.Scripts.{ranged_programs}
use Rattle.k_whole.proofs.Missed.{is_free}
use Rattle.k_whole.proofs.Progress.{has_a_step}
use Rattle.k_whole.proofs.laws.every_carrier_has_a_step.Goals as goal

pub returns-clause-single : goal.returns-clause-single
returns-clause-single c =
    λ script b w es k n h low single. has_a_step (ranged_programs script) b w h.pair h.owns n low
    (λ i a b'. is_free (ranged_programs script) b w h.pair h.hands single n i a b')

pub returns-clause-others : goal.returns-clause-others
returns-clause-others c =
    λ script b w es k n h low nobody. has_a_step (ranged_programs script) b w h.pair h.owns n low (λ i a b'. absurd (nobody i a))
