use Rattle.std.proofs.Common.{◌≡◌, ◌-◌, drop, length}
use Rattle.k_world.specs.Lawful.{links_of}
use Rattle.k_report.proofs.waits.next_of.Given as goal

abbrev pub invariant-loop-at : goal.invariant-loop-at
invariant-loop-at l = links_of l.index (drop l.from l.links) ≡ links_of l.index (drop l.at l.links)

abbrev pub decreases-loop-at : goal.decreases-loop-at
decreases-loop-at l = length l.links - l.at
