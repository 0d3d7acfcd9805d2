use Rattle.std.proofs.Common.{◌≡◌, ◌++◌, map}
use Rattle.std.specs.List.{range_with_len}
use Rattle.k_script.specs.Big.{server_thread}
use Rattle.k_script.proofs.generator.add_servers.Given as goal

abbrev pub invariant-loop-index : goal.invariant-loop-index
invariant-loop-index l = l.threads.items ≡ l.fn.threads.items ++ map server_thread (range_with_len 0 l.index)
