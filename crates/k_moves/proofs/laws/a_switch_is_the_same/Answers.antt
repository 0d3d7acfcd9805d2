use Rattle.k_moves.proofs.Switches.{finds, gets, loads_goal, loads_start}
use Rattle.k_moves.proofs.Releases.{releases}
use Rattle.k_moves.proofs.laws.a_switch_is_the_same.Goals as goal

pub returns-clause-got : goal.returns-clause-got
returns-clause-got c = gets

pub returns-clause-owned : goal.returns-clause-owned
returns-clause-owned c = finds

pub returns-clause-goal : goal.returns-clause-goal
returns-clause-goal c = loads_goal

pub returns-clause-start : goal.returns-clause-start
returns-clause-start c = loads_start

pub returns-clause-released : goal.returns-clause-released
returns-clause-released c = releases
