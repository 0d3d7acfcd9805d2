use Rattle.std.proofs.Common.{◌≡◌, ℕ, ◌<◌, get_or, length}
use Rattle.k_core.proofs.boot.versions_of.Given as goal

abbrev pub invariant-loop-number : goal.invariant-loop-number
invariant-loop-number l = (length l.versions ≡ 64) × ((k : ℕ) → k < l.number →
    get_or l.versions k 0 ≡ get_or l.aged k 0)
