use Rattle.k_schedule.specs.Bursts.{IsBetween, rounds}
use Rattle.k_schedule.specs.Schedule.{IsTail, Moment}
use Rattle.k_bursts.specs.Playing.{Stands, moment_at}
use Rattle.k_bursts.proofs.bursts.tail.Given as goal

abbrev pub invariant-loop-idle : goal.invariant-loop-idle
invariant-loop-idle g l = record {
  kept : g.K.Kernel.IsKept l.script l.kernel;
  stands : Stands (g.K.Kernel.facts l.script) l.script (g.K.Kernel.world l.script l.kernel) l.next;
  between : IsBetween (g.K.Kernel.carriers l.script) (g.K.Kernel.facts l.script) l.c
      (moment_at l.script (g.K.Kernel.world l.script l.kernel) l.next);
  back : (end : Moment g.K.Kernel.World) →
      IsTail (g.K.Kernel.carriers l.script) l.c (moment_at l.script (g.K.Kernel.world l.script l.kernel) l.next) end →
      IsTail (g.K.Kernel.carriers l.script) 0
      (moment_at l.script (g.K.Kernel.world l.script l.initial.kernel) l.initial.next) end;
}

abbrev pub decreases-loop-idle : goal.decreases-loop-idle
decreases-loop-idle g l =
    rounds (g.K.Kernel.carriers l.script) l.c (moment_at l.script (g.K.Kernel.world l.script l.kernel) l.next)
