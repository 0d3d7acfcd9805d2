use Rattle.std.proofs.Common.{◌≡◌, ◌≤◌, take}
use Rattle.std.specs.List.{count_by}
use Rattle.k_calls.specs.Calls.{is_helped}
use Rattle.k_report.proofs.totals.helped.Given as goal

abbrev pub invariant-loop-mark : goal.invariant-loop-mark
invariant-loop-mark l = (l.count ≡ count_by is_helped (take l.mark-index l.steps)) × (l.count ≤ l.mark-index)
