use Rattle.k_schedule.specs.Bursts.{IsBursting}
use Rattle.k_schedule.specs.Schedule.{Burst, IsBurst}
use Rattle.k_schedule.proofs.Effort.{effort}
use Rattle.k_bursts.specs.Playing.{Stands, moment_at}
use Rattle.k_bursts.proofs.bursts.burst.Given as goal

abbrev pub invariant-loop-idle : goal.invariant-loop-idle
invariant-loop-idle g l = record {
  kept : g.K.Kernel.IsKept l.script l.kernel;
  stands : Stands (g.K.Kernel.facts l.script) l.script (g.K.Kernel.world l.script l.kernel) l.next;
  bursting : IsBursting (g.K.Kernel.carriers l.script) (g.K.Kernel.facts l.script) l.c
      (moment_at l.script (g.K.Kernel.world l.script l.kernel) l.next);
  back : (b : Burst g.K.Kernel.World) →
      IsBurst (g.K.Kernel.carriers l.script) l.c (moment_at l.script (g.K.Kernel.world l.script l.kernel) l.next) b →
      IsBurst (g.K.Kernel.carriers l.script) l.c
      (moment_at l.script (g.K.Kernel.world l.script l.initial.kernel) l.initial.next) b;
}

abbrev pub decreases-loop-idle : goal.decreases-loop-idle
decreases-loop-idle g l =
    effort (g.K.Kernel.carriers l.script) (g.K.Kernel.facts l.script) l.c
    (moment_at l.script (g.K.Kernel.world l.script l.kernel) l.next)
