use Rattle.std.proofs.Common.{◌≡◌, map}
use Rattle.std.specs.List.{range_with_len}
use Rattle.k_machine.specs.Machine.{state_of}
use Rattle.k_model.specs.State.{found_of}
use Rattle.k_replay.proofs.finish.finals.Given as goal

abbrev pub invariant-loop-number : goal.invariant-loop-number
invariant-loop-number l = l.finals.items ≡ map (found_of (state_of l.machine.lists)) (range_with_len 0 l.number)
