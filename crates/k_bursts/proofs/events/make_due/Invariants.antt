use Rattle.std.proofs.Common.{◌≡◌, ◌-◌, length, drop}
use Rattle.k_schedule.specs.Schedule.{at_once}
use Rattle.k_bursts.specs.Playing.{Stands}
use Rattle.k_bursts.proofs.events.make_due.Given as goal

abbrev pub invariant-loop-next : goal.invariant-loop-next
invariant-loop-next g l = record {
  kept : g.K.Kernel.IsKept l.script l.kernel;
  stands : Stands (g.K.Kernel.facts l.script) l.script (g.K.Kernel.world l.script l.kernel) l.next;
  same : at_once (g.K.Kernel.carriers l.script) l.c l.step (g.K.Kernel.world l.script l.kernel) (drop l.next l.script.at_lines)
      ≡ at_once (g.K.Kernel.carriers l.script) l.c l.step (g.K.Kernel.world l.script l.initial.kernel)
      (drop l.first l.script.at_lines);
}

abbrev pub decreases-loop-next : goal.decreases-loop-next
decreases-loop-next g l = length l.script.at_lines - l.next
