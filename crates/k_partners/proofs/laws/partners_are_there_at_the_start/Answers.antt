use Rattle.k_partners.proofs.Partners.{partners_start}
use Rattle.k_partners.proofs.laws.partners_are_there_at_the_start.Goals as goal

pub returns : goal.returns
returns c = λ g b h. partners_start g b h
