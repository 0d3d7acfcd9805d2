use Rattle.std.proofs.Common.{◌≡◌}
use Rattle.k_schedule.specs.Schedule.{parks}
use Rattle.k_bursts.specs.Playing.{Stands, moment_at}
use Rattle.k_bursts.proofs.run.park_all.Given as goal

abbrev pub invariant-loop-c : goal.invariant-loop-c
invariant-loop-c g l = record {
  kept : g.K.Kernel.IsKept l.script l.kernel;
  stands : Stands (g.K.Kernel.facts l.script) l.script (g.K.Kernel.world l.script l.kernel) l.next;
  same : moment_at l.script (g.K.Kernel.world l.script l.kernel) l.next
      ≡ parks (g.K.Kernel.carriers l.script) l.c
      (moment_at l.script (g.K.Kernel.world l.script l.initial.kernel) l.initial.next);
}
