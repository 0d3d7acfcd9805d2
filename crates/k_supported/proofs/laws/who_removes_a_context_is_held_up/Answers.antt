use Rattle.k_supported.proofs.Removals.{removal_held_up}
use Rattle.k_supported.proofs.laws.who_removes_a_context_is_held_up.Goals as goal

pub returns : goal.returns
returns c = λ g b w n i call pair victims alone asked at. removal_held_up g b w pair victims n i call asked at alone
