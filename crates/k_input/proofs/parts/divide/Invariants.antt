use Rattle.std.proofs.Common.{◌≡◌, ◌≤◌, ◌-◌, ◌++◌, length, take, drop}
use Rattle.k_input.specs.Division.{script_part, history_part}
use Rattle.k_input.proofs.parts.divide.Given as goal

abbrev pub invariant-loop-end : goal.invariant-loop-end
invariant-loop-end l =
    (l.at ≤ length l.bytes)
    × (script_part l.bytes ≡ take l.at l.bytes ++ script_part (drop l.at l.bytes))
    × (history_part l.bytes ≡ history_part (drop l.at l.bytes))

abbrev pub decreases-loop-end : goal.decreases-loop-end
decreases-loop-end l = length l.bytes - l.at
