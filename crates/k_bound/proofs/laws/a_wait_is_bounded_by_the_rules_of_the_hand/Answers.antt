use Rattle.k_bound.proofs.Hands.{carrier_sound, never_taken}
use Rattle.k_bound.proofs.laws.a_wait_is_bounded_by_the_rules_of_the_hand.Goals as goal

pub returns-clause-got : goal.returns-clause-got
returns-clause-got g c =
    let s = g.S.Sectioned in
    λ state own events good. (carrier_sound s.sections s.IsGood s.laws events state own good).0.1

pub returns-clause-sound : goal.returns-clause-sound
returns-clause-sound g c =
    let s = g.S.Sectioned in
    λ state own events good. carrier_sound s.sections s.IsGood s.laws events state own good

pub returns-clause-never_taken : goal.returns-clause-never_taken
returns-clause-never_taken g c =
    let s = g.S.Sectioned in
    λ state own events others good. never_taken s.sections s.IsGood s.laws events state own others good
