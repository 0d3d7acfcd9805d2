use Rattle.k_world.proofs.Worlds.{sized_moved, sized_parked, sized_sliced, sized_started}
use Rattle.k_world.proofs.laws.lists_keep_their_lengths.Goals as goal

pub returns-clause-moved : goal.returns-clause-moved
returns-clause-moved c = sized_moved

pub returns-clause-started : goal.returns-clause-started
returns-clause-started c = sized_started

pub returns-clause-sliced : goal.returns-clause-sliced
returns-clause-sliced c = sized_sliced

pub returns-clause-parked : goal.returns-clause-parked
returns-clause-parked c = sized_parked
