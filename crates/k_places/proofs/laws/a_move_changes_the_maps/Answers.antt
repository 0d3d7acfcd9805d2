use Rattle.k_places.proofs.Raw.{maps_moved, maps_parked, maps_sliced, maps_started, word_is}
use Rattle.k_places.proofs.laws.a_move_changes_the_maps.Goals as goal

pub returns-clause-words : goal.returns-clause-words
returns-clause-words c = word_is

pub returns-clause-moved : goal.returns-clause-moved
returns-clause-moved c = maps_moved

pub returns-clause-started : goal.returns-clause-started
returns-clause-started c = maps_started

pub returns-clause-sliced : goal.returns-clause-sliced
returns-clause-sliced c = maps_sliced

pub returns-clause-parked : goal.returns-clause-parked
returns-clause-parked c = maps_parked
