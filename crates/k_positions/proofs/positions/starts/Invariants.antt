use Rattle.std.proofs.Common.{◌≡◌, ◌<◌, ℕ, length, get_or}
use Rattle.k_script.specs.Place.{IsPlace, no_place}
use Rattle.k_script.specs.Plays.{start_of, first_id}
use Rattle.k_positions.specs.Positions.{positions_in, program_at}
use Rattle.k_positions.proofs.positions.starts.Given as goal

abbrev pub invariant-loop-number : goal.invariant-loop-number
invariant-loop-number l =
    (length l.positions.items ≡ l.number)
    × ((t : ℕ) → t < l.number → IsPlace l.script (get_or l.positions.items t no_place))
    × ((t : ℕ) → t < l.number → positions_in l.script l.positions.items t ≡ start_of l.script (program_at l.script t) (first_id t))
