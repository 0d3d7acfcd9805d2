use Rattle.k_partners.proofs.Partners.{partners_left}
use Rattle.k_partners.proofs.laws.a_destroy_leaves_nobody_waiting.Goals as goal

pub returns : goal.returns
returns c = λ g b i t k good h at q. partners_left g b i t k good h at q
