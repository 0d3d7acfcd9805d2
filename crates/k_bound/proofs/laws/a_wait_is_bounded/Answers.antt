use Rattle.k_bound.proofs.Steps.{run_sound}
use Rattle.k_bound.proofs.laws.a_wait_is_bounded.Goals as goal

pub returns-clause-got : goal.returns-clause-got
returns-clause-got g c =
    let s = g.S.Sectioned in
    λ state requester steps good. (run_sound s.sections s.IsGood s.laws steps state requester good).1

pub returns-clause-sound : goal.returns-clause-sound
returns-clause-sound g c =
    let s = g.S.Sectioned in
    λ state requester steps good. run_sound s.sections s.IsGood s.laws steps state requester good
