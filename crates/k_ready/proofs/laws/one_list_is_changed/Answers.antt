use Rattle.k_ready.proofs.Changed.{list_changed, list_popped}
use Rattle.k_ready.proofs.laws.one_list_is_changed.Goals as goal

pub returns-clause-changed : goal.returns-clause-changed
returns-clause-changed c = list_changed

pub returns-clause-popped : goal.returns-clause-popped
returns-clause-popped c = list_popped
