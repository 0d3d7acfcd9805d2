use Rattle.std.proofs.Common.{◌≡◌, map}
use Rattle.std.specs.List.{All, range_with_len}
use Rattle.k_carrier.specs.Seen.{IsPlaced, new_carrier}
use Rattle.k_logs.specs.Seen.{carriers_in}
use Rattle.k_core.proofs.boot.carriers_of.Given as goal

abbrev pub invariant-loop-number : goal.invariant-loop-number
invariant-loop-number l =
    (carriers_in l.script l.list.items ≡ map (λ c. new_carrier c l.table) (range_with_len 0 l.number)) × All
    (IsPlaced l.script) l.list.items
