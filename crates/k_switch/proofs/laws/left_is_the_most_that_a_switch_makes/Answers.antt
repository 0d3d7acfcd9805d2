use Rattle.k_switch.proofs.SwitchRuns.{in_time, most}
use Rattle.k_switch.proofs.laws.left_is_the_most_that_a_switch_makes.Goals as goal

pub returns-clause-in_time : goal.returns-clause-in_time
returns-clause-in_time c = in_time

pub returns-clause-most : goal.returns-clause-most
returns-clause-most c = most
