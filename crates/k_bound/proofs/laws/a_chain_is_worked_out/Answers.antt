use Rattle.k_bound.proofs.Worked.{worked_laws}
use Rattle.k_bound.proofs.laws.a_chain_is_worked_out.Goals as goal

pub returns-clause-laws : goal.returns-clause-laws
returns-clause-laws c = worked_laws
