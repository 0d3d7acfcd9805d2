use Rattle.k_world.proofs.Examples.{client_is_helped, creator_helps_two, receiver_is_helped}
use Rattle.k_world.proofs.laws.worked_runs_come_out.Goals as goal

pub returns-clause-client : goal.returns-clause-client
returns-clause-client c = client_is_helped

pub returns-clause-creator : goal.returns-clause-creator
returns-clause-creator c = creator_helps_two

pub returns-clause-receiver : goal.returns-clause-receiver
returns-clause-receiver c = receiver_is_helped
