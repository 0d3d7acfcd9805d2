use Rattle.k_paired.proofs.Pairs.{pair_begins}
use Rattle.k_paired.proofs.laws.a_pair_begins.Goals as goal

pub returns : goal.returns
returns c = λ g b o booted free n count names low h. pair_begins g b o booted free n count names low h
