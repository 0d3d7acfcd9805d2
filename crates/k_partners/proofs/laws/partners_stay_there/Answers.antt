use Rattle.k_partners.proofs.Partners.{partners_keep}
use Rattle.k_partners.proofs.laws.partners_stay_there.Goals as goal

pub returns : goal.returns
returns c = λ g b b' i good within tells h turn. partners_keep g b i good within tells h b' turn
