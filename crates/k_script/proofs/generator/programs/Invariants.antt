use Rattle.std.proofs.Common.{◌≡◌, ◌*◌, ◌∷◌, ℕ, map}
use Rattle.std.specs.List.{range_with_len}
use Rattle.k_script.specs.Big.{state_after, server, client}
use Rattle.k_script.proofs.generator.programs.Given as goal

abbrev pub invariant-loop-index : goal.invariant-loop-index
invariant-loop-index l = record {
  programs : (number : ℕ) → l.fn.generator.state ≡ state_after number 0 → l.programs.items ≡ server ∷ map (client number) (range_with_len 0 l.index);
  state : (number : ℕ) → l.fn.generator.state ≡ state_after number 0 → l.generator.state ≡ state_after number (4 * l.index);
}
