use Rattle.k_marks.proofs.Contexts.{asked_goes, begun_goes, placed_new, with_goes, without_goes, woken_goes}
use Rattle.k_marks.proofs.laws.contexts_go_as_counted.Goals as goal

pub returns-clause-asked : goal.returns-clause-asked
returns-clause-asked c = asked_goes

pub returns-clause-woken : goal.returns-clause-woken
returns-clause-woken c = woken_goes

pub returns-clause-begun : goal.returns-clause-begun
returns-clause-begun c = begun_goes

pub returns-clause-with_switch : goal.returns-clause-with_switch
returns-clause-with_switch c = with_goes

pub returns-clause-without_switch : goal.returns-clause-without_switch
returns-clause-without_switch c = without_goes

pub returns-clause-placed : goal.returns-clause-placed
returns-clause-placed c = placed_new
