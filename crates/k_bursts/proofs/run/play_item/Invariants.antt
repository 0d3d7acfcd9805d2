use Rattle.std.proofs.Common.{◌≡◌}
use Rattle.k_schedule.specs.Schedule.{times}
use Rattle.k_bursts.specs.Playing.{Stands, moment_at}
use Rattle.k_bursts.proofs.run.play_item.Given as goal

abbrev pub invariant-loop : goal.invariant-loop
invariant-loop g l = record {
  kept : g.K.Kernel.IsKept l.script l.kernel;
  stands : Stands (g.K.Kernel.facts l.script) l.script (g.K.Kernel.world l.script l.kernel) l.next;
  same : moment_at l.script (g.K.Kernel.world l.script l.kernel) l.next
      ≡ times (g.K.Kernel.carriers l.script) l.carrier l.counter
      (moment_at l.script (g.K.Kernel.world l.script l.initial.kernel) l.initial.next);
}
