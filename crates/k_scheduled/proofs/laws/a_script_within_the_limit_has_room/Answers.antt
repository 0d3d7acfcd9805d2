use Rattle.std.proofs.Common.{arith}
use Rattle.k_scheduled.proofs.laws.a_script_within_the_limit_has_room.Goals as goal

pub returns : goal.returns
returns c = λ script few. omega (arith, few, c.calls_weigh_four.ensures script)
