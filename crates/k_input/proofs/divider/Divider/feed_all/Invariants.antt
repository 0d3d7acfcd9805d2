use Rattle.std.proofs.Common.{◌≡◌, ◌≤◌, ◌+◌, ◌*◌, drop}
use Rattle.k_input.specs.Counting.{fed_all}
use Rattle.k_input.proofs.divider.Divider.feed_all.Given as goal

abbrev pub invariant-loop-b : goal.invariant-loop-b
invariant-loop-b l =
    (fed_all l.divider (drop l.b-index l.bytes) ≡ fed_all l.fn.self l.bytes)
    × (l.divider.script ≤ l.fn.self.script + 3 * l.b-index)
    × (l.divider.len ≡ l.fn.self.len + l.b-index)
