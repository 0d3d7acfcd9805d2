use Rattle.std.proofs.Common.{◌≡◌, drop}
use Rattle.k_schedule.specs.Schedule.{items_at}
use Rattle.k_bursts.specs.Playing.{Stands, moment_at}
use Rattle.k_bursts.proofs.run.play_turns.Given as goal

abbrev pub invariant-loop-item : goal.invariant-loop-item
invariant-loop-item g l = record {
  kept : g.K.Kernel.IsKept l.script l.kernel;
  stands : Stands (g.K.Kernel.facts l.script) l.script (g.K.Kernel.world l.script l.kernel) l.next;
  same : items_at (g.K.Kernel.carriers l.script) (drop l.item-index l.script.turns)
      (moment_at l.script (g.K.Kernel.world l.script l.kernel) l.next)
      ≡ items_at (g.K.Kernel.carriers l.script) l.script.turns
      (moment_at l.script (g.K.Kernel.world l.script l.initial.kernel) l.initial.next);
}
