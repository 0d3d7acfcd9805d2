use Rattle.k_good.proofs.NumbersKeep.{unused_is}
use Rattle.k_good.proofs.laws.a_create_chooses_an_unused_number.Goals as goal

pub returns : goal.returns
returns c = λ g b h i n c at e. unused_is g b h.places h.locks h.numbers i n c at e
