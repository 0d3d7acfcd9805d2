use Rattle.k_partners.proofs.Turned.{context_stays, turn_ended, turn_looked}
use Rattle.k_partners.proofs.laws.who_looks_in_vain_waits_no_more.Goals as goal

pub returns-clause-looks : goal.returns-clause-looks
returns-clause-looks c = λ g b b' t k from turn gone at. turn_looked g b t k from b' turn gone at

pub returns-clause-ends : goal.returns-clause-ends
returns-clause-ends c = λ g b b' t k from f turn at other q. turn_ended g b t k from f b' turn at other q

pub returns-clause-others : goal.returns-clause-others
returns-clause-others c = λ g b b' i t f turn ne alive. context_stays g b i f t alive b' turn ne
