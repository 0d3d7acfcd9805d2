use Rattle.std.proofs.Common.{◌≡◌, ◌+◌, ◌*◌, ◌≤◌, ℕ, map}
use Rattle.std.specs.List.{range_with_len}
use Rattle.k_script.specs.Big.{state_after, slice_line, slice_step}
use Rattle.k_script.proofs.generator.at_lines.Given as goal

abbrev pub invariant-loop : goal.invariant-loop
invariant-loop l = record {
  lines : (number : ℕ) → l.fn.generator.state ≡ state_after number 40 → l.lines.items ≡ map (slice_line number) (range_with_len 0 l.counter);
  state : (number : ℕ) → l.fn.generator.state ≡ state_after number 40 → l.generator.state ≡ state_after number (40 + l.counter);
  step : (number : ℕ) → l.fn.generator.state ≡ state_after number 40 → l.step ≡ slice_step number l.counter;
  low : l.step ≤ 256 * l.counter;
}
