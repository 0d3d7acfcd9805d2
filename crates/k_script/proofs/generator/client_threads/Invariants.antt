use Rattle.std.proofs.Common.{◌≡◌, ◌+◌, ℕ, map}
use Rattle.std.specs.List.{range_with_len}
use Rattle.k_script.specs.Big.{state_after, client_thread}
use Rattle.k_script.proofs.generator.client_threads.Given as goal

abbrev pub invariant-loop-index : goal.invariant-loop-index
invariant-loop-index l = record {
  threads : (number : ℕ) → l.fn.generator.state ≡ state_after number 32 → l.threads.items ≡ map (client_thread number) (range_with_len 0 l.index);
  state : (number : ℕ) → l.fn.generator.state ≡ state_after number 32 → l.generator.state ≡ state_after number (32 + l.index);
}
