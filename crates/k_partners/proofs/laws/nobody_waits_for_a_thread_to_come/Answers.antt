use Rattle.k_partners.proofs.Partners.{none_to_come}
use Rattle.k_partners.proofs.laws.nobody_waits_for_a_thread_to_come.Goals as goal

pub returns : goal.returns
returns c = λ g b i t k id f h at q. none_to_come g b i t k id f h at q
