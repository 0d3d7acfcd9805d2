use Rattle.std.proofs.Common.{◌≡◌, true}
use Rattle.k_schedule.specs.Schedule.{all_settled}
use Rattle.k_bursts.proofs.bursts.is_settled.Given as goal

abbrev pub invariant-loop-c : goal.invariant-loop-c
invariant-loop-c g l = all_settled (g.K.Kernel.carriers l.script) l.c (g.K.Kernel.world l.script l.kernel) ≡ true
