use Rattle.std.proofs.Common.{ℕ, ◌+◌, ◌/◌, ◌%◌, ap, ◌∙◌}
use Rattle.k_script.specs.Big.{state_after}
use Rattle.k_script.proofs.Draws.{next_is}
use Rattle.k_script.proofs.generator.Generator.draw.Goals as goal

pub returns-clause-drawn : goal.returns-clause-drawn
returns-clause-drawn c = λ number draws h.
    ap (λ (k : ℕ). (k / 8589934592) % c.from.result) (next_is c.args.self.now.state number draws h) ∙ ap (λ (k : ℕ). (state_after number (draws + 1) / 8589934592) % k) c.from.ensures

pub returns-clause-state : goal.returns-clause-state
returns-clause-state c = λ number draws h. next_is c.args.self.now.state number draws h
