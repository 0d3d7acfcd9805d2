use Rattle.k_script.proofs.Goes.{runs_push, runs_later, next_left, runs_left}
use Rattle.k_script.proofs.laws.a_program_goes_on.Goals as goal

pub returns-clause-push : goal.returns-clause-push
returns-clause-push c = runs_push

pub returns-clause-later : goal.returns-clause-later
returns-clause-later c = runs_later

pub returns-clause-step : goal.returns-clause-step
returns-clause-step c = next_left

pub returns-clause-left : goal.returns-clause-left
returns-clause-left c = runs_left
