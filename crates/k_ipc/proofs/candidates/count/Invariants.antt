use Rattle.std.proofs.Common.{◌≡◌, ◌+◌, length}
use Rattle.k_ipc.specs.Candidates.{IsLink, admitted, linked}
use Rattle.k_ipc.proofs.candidates.count.Given as goal

abbrev pub invariant-loop-at : goal.invariant-loop-at
invariant-loop-at l = IsLink l.at l.queue.entries × ((l.count + admitted l.from (linked l.at l.queue.entries) ≡ admitted l.from (linked l.initial.at l.queue.entries)))

abbrev pub decreases-loop-at : goal.decreases-loop-at
decreases-loop-at l = length (linked l.at l.queue.entries)
