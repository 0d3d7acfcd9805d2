use Rattle.std.proofs.Common.{rules}
use Rattle.k_carrier.proofs.asked.rested.Goals as goal

pub end_switch-requires-clause-finished : goal.end_switch-requires-clause-finished
end_switch-requires-clause-finished c = (c.args.script.now, rw (← c.switched.ensures c.args.script.now, c.in-Some.is) (search rules))
