use Rattle.k_partners.proofs.Partners.{none_own, number_looks}
use Rattle.k_partners.proofs.laws.nobody_waits_for_its_own_number.Goals as goal

pub returns-clause-own : goal.returns-clause-own
returns-clause-own c = λ b t h q. none_own b t h q

pub returns-clause-number : goal.returns-clause-number
returns-clause-number c = λ g b t from good h q e. number_looks g b t from good h q e
